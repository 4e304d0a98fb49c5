pub mod PublicCalls
