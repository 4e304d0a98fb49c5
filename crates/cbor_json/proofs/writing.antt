pub mod Json
pub mod Calls
