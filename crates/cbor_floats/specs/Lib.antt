pub mod Decimal
pub mod Nearest
pub mod Preferred
pub mod Value
pub mod mirror
