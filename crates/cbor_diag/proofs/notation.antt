pub mod ChunkLoops
pub mod Errors
pub mod Loops
pub mod Cores
pub mod PublicReader
pub mod SoFar
