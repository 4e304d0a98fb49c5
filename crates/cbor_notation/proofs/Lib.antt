pub mod notation
