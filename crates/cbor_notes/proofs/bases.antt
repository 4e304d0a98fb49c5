pub mod Base58Digits
pub mod Base58Lemmas
pub mod DecodedLineLemmas
