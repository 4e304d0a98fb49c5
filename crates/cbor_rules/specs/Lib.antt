pub mod KeyOrder
pub mod Reduced
pub mod FirstViolation
pub mod Keeps
pub mod Same
pub mod Sets
pub mod mirror
