pub mod Adds
pub mod mirror
-- what the crates below define, for callers
pub use Rattle.cbor_edn_grammar.specs.Edn
pub use Rattle.cbor_edn_grammar.specs.Items
