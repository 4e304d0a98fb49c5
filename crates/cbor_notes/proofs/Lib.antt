pub mod bases
pub mod texts
pub mod dates
pub mod columns
