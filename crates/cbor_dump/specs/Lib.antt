pub mod Comments
pub mod Pieces
pub mod Dump
pub mod Notes
pub mod mirror
