-- Definitions for the checker alone, which follow the code for floats as numbers.
pub mod DoubleBits
