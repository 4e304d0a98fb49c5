pub mod Readings
pub mod ChunksRead
pub mod Levels
pub mod ChunkLengths
