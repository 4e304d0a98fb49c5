pub mod Dialect
pub mod mirror
