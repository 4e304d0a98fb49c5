-- Definitions for the checker alone, which follow the code that finds the first violation of rules.
pub mod DoubleSizes
pub mod Opened
