pub mod Breaks
pub mod Written
pub mod EdnLeaves
pub mod Elements
pub mod Lines
pub mod Opened
pub mod OwnNotes
