pub mod Fronts
pub mod Appending
pub mod HexDecoded
pub mod HexLemmas
pub mod HexTables
