-- For `parse/notation/strings.rt`: the kind of string and the chunks that a `Chunks` of the code stands for
-- (`list_kind`, `chunk_list`), while an indefinite-length string is read into a `DataItem`.
use Rattle.std.specs.Prelude.{List, map}
use Rattle.cbor_diag.specs.declared.parse.notation.strings.Chunks.{Chunks}
use Rattle.cbor_diag.specs.declared.parse.notation.strings.Chunks.TheVariants as chunks
use Rattle.cbor_grammar.specs.Item.{Chunk}
use Rattle.cbor_grammar.specs.declared.strings.StringKind.{StringKind}
use Rattle.cbor_grammar.specs.declared.strings.StringKind.TheVariants.{Bytes, Text}
use Rattle.cbor_grammar.specs.Strings.{byte_chunk, text_chunk}

abbrev pub list_kind : Chunks → StringKind
list_kind (chunks.Bytes v) = Bytes
list_kind (chunks.Text v) = Text

abbrev pub chunk_list : Chunks → List Chunk
chunk_list (chunks.Bytes v) = map byte_chunk v.items
chunk_list (chunks.Text v) = map text_chunk v.items
