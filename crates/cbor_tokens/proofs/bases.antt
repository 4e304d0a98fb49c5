pub mod Base32Alphabet
pub mod Base32Encode
pub mod Base32Groups
pub mod Places
pub mod Base32Numbers
pub mod Base32Padding
pub mod Fives
pub mod Base64Digits
