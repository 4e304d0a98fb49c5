-- What the writer keeps of the names of open objects, and that no object has a name twice.
pub mod Ordered
pub mod Named
pub mod Unique
