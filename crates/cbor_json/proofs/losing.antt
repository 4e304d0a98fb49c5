-- That the first loss is found, and that JSON keeps all of an item where none is.
pub mod Kept
