pub mod Sequences
pub mod OneSequence
