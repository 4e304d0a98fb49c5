pub mod Words
pub mod Errors
pub mod Counting
pub mod Running
pub mod Sequence
