pub mod Turning
pub mod Counting
pub mod ChunkLoops
pub mod ItemTurns
