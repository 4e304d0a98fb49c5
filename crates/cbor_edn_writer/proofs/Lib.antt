pub mod writing
pub mod back
pub mod Places
pub mod Comments
