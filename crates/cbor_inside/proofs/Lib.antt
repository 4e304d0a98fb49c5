pub mod Heads
pub mod Readings
pub mod Places
pub mod Shown
