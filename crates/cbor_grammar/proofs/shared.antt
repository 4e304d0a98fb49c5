pub mod Utf8
pub mod Compared
pub mod Fitting
pub mod EmbeddedItems
