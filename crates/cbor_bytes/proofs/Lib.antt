pub mod bytes
pub mod skipping
pub mod hex
pub mod reading
