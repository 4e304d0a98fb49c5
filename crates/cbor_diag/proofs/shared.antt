pub mod Views
pub mod Levels
