pub mod Slices
pub mod Heads
pub mod Edits
