pub mod Order
pub mod Texts
