pub mod bases
pub mod tokens
pub mod texts
pub mod escaping
