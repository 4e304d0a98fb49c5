-- For `strings.rt`: the chunks that a `Chunks` has collected for an indefinite-length string of EDN (`chunk_list`), the
-- kind of the string (`list_kind`), and the result of adding a chunk (`PushGives`).
use Rattle.std.specs.Prelude.{◌≡◌, List, [], ◌∷◌, ◌++◌, map, Option, Some, Result, Ok, Err}
use Rattle.cbor_grammar.specs.Item.{Chunk}
use Rattle.cbor_grammar.specs.declared.strings.StringKind.{StringKind}
use Rattle.cbor_grammar.specs.declared.strings.StringKind.TheVariants.{Bytes, Text}
use Rattle.cbor_grammar.specs.Strings.{byte_chunk, text_chunk}
use Rattle.cbor_edn_grammar.specs.declared.error.Stop.{Stop}
use Rattle.cbor_edn.specs.declared.strings.Chunks.{Chunks}
use Rattle.cbor_edn.specs.declared.strings.Chunks.TheVariants as chunks
use Rattle.cbor_edn_grammar.specs.Reading.{Refuses}

abbrev pub list_kind : Chunks → StringKind
list_kind (chunks.Bytes v) = Bytes
list_kind (chunks.Text v) = Text

abbrev pub chunk_list : Chunks → List Chunk
chunk_list (chunks.Bytes v) = map byte_chunk v.items
chunk_list (chunks.Text v) = map text_chunk v.items

-- this chunk was added, or there is none, or memory ran out
abbrev pub PushGives : {A : Type 0} → Result A Stop → List Chunk → List Chunk → Option Chunk → Type 0
PushGives (Ok u) old new chunk = (c : Chunk) × (chunk ≡ Some c) × (new ≡ old ++ c ∷ [])
PushGives (Err e) old new chunk = Refuses e chunk
