-- Definitions for the checker alone. They follow the code that writes notation straight from bytes.
pub mod Straight
pub mod Ahead
pub mod LayoutView
pub mod LeafView
pub mod DiagLeaves
