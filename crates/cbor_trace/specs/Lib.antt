pub mod Around
pub mod mirror
