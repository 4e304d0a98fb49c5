pub mod Nearest
pub mod HexFloats
pub mod Addresses
pub mod Decoded
pub mod Apostrophe
pub mod Blanks
pub mod PlainHex
pub mod PlainText
