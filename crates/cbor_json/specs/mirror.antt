-- Definitions for the checker alone, which follow the code that finds what JSON does not keep, and that which works
-- out decimal digits.
pub mod Losing
pub mod LowDigits
pub mod Walking
