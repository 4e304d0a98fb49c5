pub mod DigitCounts
pub mod Parts
pub mod Forms
