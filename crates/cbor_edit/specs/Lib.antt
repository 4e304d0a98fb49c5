pub mod Edited
pub mod Members
pub mod mirror
