pub mod Heads
pub mod Fault
