pub mod Skips
pub mod SkippedParts
pub mod Extents
pub mod Scans
pub mod ScannedParts
pub mod Progresses
pub mod ScanAnswers
pub mod OpenStacks
