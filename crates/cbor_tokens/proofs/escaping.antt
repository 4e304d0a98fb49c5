pub mod High
pub mod Unescaped
pub mod Shown
pub mod HiddenLemmas
