-- Definitions for the checker alone, which follow the code that reads notation: the function and the `Cursor`.
pub mod NotationReading
pub mod Cursor
