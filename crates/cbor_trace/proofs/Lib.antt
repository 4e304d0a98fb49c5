pub mod Values
pub mod Parts
pub mod Ways
pub mod Insides
pub mod Carried
pub mod Ends
