-- Definitions for the checker alone, which follow the code of types, and the code of readers in the crates above.
pub mod Counting
pub mod AtLevel
pub mod MajorNumber
pub mod StringView
pub mod Lengths
pub mod StrictHeads
pub mod HexPlaces
pub mod SameDecides
