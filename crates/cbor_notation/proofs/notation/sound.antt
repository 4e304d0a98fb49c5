pub mod Steps
pub mod Lists
pub mod Words
pub mod Strings
pub mod Pieces
pub mod Items
