pub mod Adds
pub mod Bigs
pub mod Dates
pub mod Members
pub mod NoChunks
pub mod PlainQuoted
