pub mod Extent
pub mod Scanning
pub mod Utf8
pub mod mirror
