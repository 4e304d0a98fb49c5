pub mod NoLongSimple
pub mod StrictHeads
pub mod Remaining
pub mod Characters
pub mod WellFormed
