-- Definitions for the checker alone, which follow the code that edits.
pub mod Heads
