-- Definitions for the checker alone, which follow the code of UTF-8, `extent` and `Scanner`.
pub mod Skipping
pub mod OpenStack
pub mod Scanning
pub mod Scanned
pub mod Characters
