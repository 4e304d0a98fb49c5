pub mod LooseLemmas
pub mod InputLemmas
