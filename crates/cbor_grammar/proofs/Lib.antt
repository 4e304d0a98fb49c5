pub mod bytes
pub mod hex
pub mod normal
pub mod shared
pub mod straight
pub mod text
pub mod turns
