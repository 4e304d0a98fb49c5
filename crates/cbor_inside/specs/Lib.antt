pub mod Strict
pub mod Rule
