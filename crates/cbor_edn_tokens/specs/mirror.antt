-- Definitions for the checker alone. They follow the code that reads tokens of EDN.
pub mod Front
