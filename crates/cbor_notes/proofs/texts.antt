pub mod Groups
pub mod AddressLemmas
pub mod ElementLemmas
pub mod Unescaped
