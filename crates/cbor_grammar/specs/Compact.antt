-- Diagnostic notation on one line, without blanks (RFC 7049 section 6).
use Rattle.std.specs.Prelude.{ℕ, List}
use Rattle.cbor_grammar.specs.declared.encoding.Encoding.{Encoding}
use Rattle.cbor_grammar.specs.declared.layout.Layout.TheVariants.{Compact}
use Rattle.cbor_grammar.specs.Item.{Item}
use Rattle.cbor_grammar.specs.NotationText.{in_encoding, text_at_level}

-- an item at this level, its byte strings in this encoding
abbrev pub compact : Encoding → ℕ → Item → List ℕ
compact e level i = text_at_level level (in_encoding Compact e) i
