pub mod Markup
pub mod Written
