pub mod Sequences
pub mod Fronts
pub mod EndLemmas
