pub mod OneLine
pub mod CommentTexts
pub mod DateLines
pub mod OneColumn
pub mod Trees
pub mod Spaces
