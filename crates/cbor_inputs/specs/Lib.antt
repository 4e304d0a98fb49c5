pub mod Texts
pub mod Loose
pub mod Base64
pub mod Inputs
