-- The chunk that a `ByteString` or a `TextString` stands for.
use Rattle.std.specs.Prelude.{string_bytes}
use Rattle.cbor_grammar.specs.Item.{Chunk}
use Rattle.cbor_grammar.specs.declared.strings.ByteString.{ByteString}
use Rattle.cbor_grammar.specs.declared.strings.TextString.{TextString}

-- a byte string, and a text string by its bytes
abbrev pub byte_chunk : ByteString → Chunk
byte_chunk s = record { bytes = s.content.items; width = s.bitwidth }

abbrev pub text_chunk : TextString → Chunk
text_chunk s = record { bytes = string_bytes s.content; width = s.bitwidth }
