pub mod Lines
pub mod Remaining
