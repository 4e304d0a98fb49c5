pub mod Sequence
pub mod Followed
pub mod Ends
