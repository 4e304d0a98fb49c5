-- Definitions for the checker alone, which follow the code that finds what is open at a byte.
pub mod Steps
