pub mod Decimal
pub mod Roles
pub mod JsonLeaves
pub mod Kept
pub mod Written
pub mod mirror
