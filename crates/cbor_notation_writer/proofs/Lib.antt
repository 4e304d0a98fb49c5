pub mod normal
pub mod straight
pub mod text
