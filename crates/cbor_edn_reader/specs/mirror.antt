-- Definitions for the checker alone, which follow the code that reads items of EDN.
pub mod LowBytes
