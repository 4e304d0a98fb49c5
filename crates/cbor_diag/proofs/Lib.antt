pub mod notation
pub mod bytes
pub mod shared
pub mod text
pub mod turns
