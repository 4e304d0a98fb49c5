pub mod Chunks
-- what the crates below define, for callers
pub use Rattle.cbor_edn_grammar.specs.Edn
pub use Rattle.cbor_edn_grammar.specs.Expectations
pub use Rattle.cbor_edn_grammar.specs.Items
pub use Rattle.cbor_edn_grammar.specs.Reserved
pub use Rattle.cbor_edn_grammar.specs.Lists
pub use Rattle.cbor_edn_grammar.specs.Strings
pub use Rattle.cbor_edn_reader.specs.Adds
pub use Rattle.cbor_tokens.specs.Hidden
pub use Rattle.cbor_edn_writer.specs.Lines
pub use Rattle.cbor_edn_writer.specs.Written
