pub mod PublicReaders
