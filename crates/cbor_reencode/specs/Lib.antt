pub mod Reduction
pub mod Reencoded
pub mod OneKey
pub mod mirror
