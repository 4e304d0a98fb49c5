-- Definitions for the checker alone. They follow the code that re-encodes items.
pub mod Chosen
pub mod Numbers
pub mod Rewritten
pub mod Twice
