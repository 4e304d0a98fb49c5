pub mod Colored
pub mod Elided
pub mod Sgr
pub mod Tokens
pub mod Widthless
