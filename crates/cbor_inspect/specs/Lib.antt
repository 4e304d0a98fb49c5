pub mod Forms
pub mod Shows
pub mod Rfc8949
pub mod Raw
pub mod Named
-- what the crate below defines, for callers
pub use Rattle.cbor_paths.specs.Ends
pub use Rattle.cbor_paths.specs.Followed
pub use Rattle.cbor_paths.specs.Sequence
