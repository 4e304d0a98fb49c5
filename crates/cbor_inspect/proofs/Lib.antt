pub mod Rfc8949Lemmas
pub mod StreamLemmas
pub mod OutputLemmas
pub mod Lines
