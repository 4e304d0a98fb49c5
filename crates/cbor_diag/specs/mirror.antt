-- Definitions for the checker alone. They follow the code that reads bytes and notation into a `DataItem`.
pub mod BytesAnswer
pub mod Stack
pub mod ChunkList
