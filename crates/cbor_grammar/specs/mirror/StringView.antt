-- For `StringContent` of `strings.rt`, which borrows the content of a string: its kind (`kind_of`), its bytes
-- (`bytes_of`), and the `Chunk` of these bytes and a given width (`borrowed_chunk`).
use Rattle.std.specs.Prelude.{ℕ, List}
use Rattle.cbor_grammar.specs.declared.width.IntegerWidth.{IntegerWidth}
use Rattle.cbor_grammar.specs.declared.strings.StringKind.{StringKind}
use Rattle.cbor_grammar.specs.declared.strings.StringKind.TheVariants.{Bytes, Text}
use Rattle.cbor_grammar.specs.declared.strings.StringContent.{StringContent}
use Rattle.cbor_grammar.specs.declared.strings.StringContent.TheVariants as content
use Rattle.cbor_grammar.specs.Item.{Chunk}

abbrev pub kind_of : StringContent → StringKind
kind_of (content.Bytes bytes) = Bytes
kind_of (content.Text text) = Text

-- the bytes, or the UTF-8 of the text
abbrev pub bytes_of : StringContent → List ℕ
bytes_of (content.Bytes bytes) = bytes.now
bytes_of (content.Text text) = text.now

-- the chunk that a string is where it is in the bytes, its length of that width
abbrev pub borrowed_chunk : IntegerWidth → StringContent → Chunk
borrowed_chunk w content = record { bytes = bytes_of content; width = w }
