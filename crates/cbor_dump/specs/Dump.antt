-- `lines`: the lines of the dump of an item. They show its bytes in order, each line with a comment, and notes on the
-- values of tags. `dump`: the text of these lines, laid out in columns.
use Rattle.std.specs.Prelude.{ℕ, zero, suc, ◌+◌, ◌%◌, ◌==◌, List, [], ◌∷◌, ◌++◌, length, min, map, Option, Some}
use Rattle.std.specs.Prelude.{None, Ok, Err, unwrap_or, codes, nat_le, take, drop, if◌then◌else◌}
use Rattle.std.specs.List.{flat_map}
use Rattle.std.specs.Option.{option_to_list}
use Rattle.hex.specs.Hex.{encode_lower}
use Rattle.cbor_notes.specs.Element.{element_size, element_text}
use Rattle.cbor_notes.specs.Layout.{DumpLine, layout, row, width_of}
use Rattle.cbor_grammar.specs.declared.error.Error.{Error}
use Rattle.cbor_grammar.specs.declared.error.Error.TheVariants.{Remaining}
use Rattle.cbor_grammar.specs.declared.width.IntegerWidth.{IntegerWidth}
use Rattle.cbor_grammar.specs.declared.encoding.Encoding.{Encoding}
use Rattle.cbor_grammar.specs.Item as spec
use Rattle.cbor_grammar.specs.Item.{Chunk, Atom, integer, negative, string, chunked_string, float, simple, Item, atom}
use Rattle.cbor_grammar.specs.Item.{array, tagged, Items, no_items, item, Pairs, no_pairs, pair, item_count, pair_count}
use Rattle.cbor_grammar.specs.Head.{opening, break_byte}
use Rattle.cbor_grammar.specs.declared.strings.StringKind.{StringKind}
use Rattle.cbor_grammar.specs.declared.strings.StringKind.TheVariants.{Bytes, Text}
use Rattle.cbor_grammar.specs.StringKind.{major_of}
use Rattle.cbor_grammar.specs.Written.{encoded_head, encoded_open, encoded_float, encoded_simple}
use Rattle.cbor_dump.specs.Comments.{unsigned_comment, negative_comment, float_comment, simple_comment}
use Rattle.cbor_dump.specs.Comments.{counted_comment}
use Rattle.cbor_dump.specs.Comments.{tag_comment, bytes_comment, text_comment, empty_comment, break_comment}
use Rattle.cbor_dump.specs.Comments.{encoding_below}
use Rattle.cbor_grammar.specs.Embedded.{sequence_at}
use Rattle.cbor_dump.specs.Notes.{Note, plain_note, value_note}
use Rattle.cbor_dump.specs.Pieces.{pieces_of, byte_pieces, text_pieces}
use Rattle.cbor_grammar.specs.Reading.{Read, read_item}
use Rattle.cbor_grammar.specs.Refusals.{text_of}
use Rattle.cbor_grammar.specs.WellFormed.{levels_left}

-- the digits of a head: its first byte, and after a blank the bytes that follow it, if any do
abbrev pub head_hex : List ℕ → List ℕ
head_hex bytes =
    if nat_le (length bytes) 1 then encode_lower bytes
    else encode_lower (take 1 bytes) ++ codes " " ++ encode_lower (drop 1 bytes)

abbrev pub head_line : ℕ → List ℕ → List ℕ → DumpLine
head_line depth bytes comment = record { depth = depth; hex = head_hex bytes; comment = comment }

-- a piece of a string; one without bytes has no digits
abbrev pub piece_line : ℕ → List ℕ → List ℕ → DumpLine
piece_line depth bytes comment = record { depth = depth; hex = encode_lower bytes; comment = comment }

-- ---- where an item is

-- how deep its lines are, how byte strings are shown, the tag right above it, and how many values were shared
-- before that tag
pub record Context : Type 0 where
  pub depth : ℕ
  pub encoding : Option Encoding
  pub tag : Option ℕ
  pub shared : ℕ

-- a whole item: byte strings are quoted, and there is no tag above
abbrev pub top : Context
top = record { depth = 0; encoding = None; tag = None; shared = 0 }

-- what a container holds, one deeper
abbrev pub inside : Context → Context
inside p = record { depth = p.depth + 1; encoding = p.encoding; tag = None; shared = 0 }

-- the value right below a tag, one deeper
abbrev pub below : ℕ → ℕ → Context → Context
below t known p = record { depth = p.depth + 1; encoding = encoding_below t p.encoding; tag = Some t; shared = known }

-- ---- strings

-- the lines of a string's content: one for each piece, and one where there are no pieces
abbrev pub content_lines : ℕ → (List ℕ → List ℕ) → List (List ℕ) → List DumpLine
content_lines depth comment [] = piece_line depth [] empty_comment ∷ []
content_lines depth comment (piece ∷ pieces) = map (λ p. piece_line depth p (comment p)) (piece ∷ pieces)

abbrev pub bytes_lines : ℕ → Option Encoding → List ℕ → List DumpLine
bytes_lines depth encoding bytes = content_lines depth (bytes_comment encoding bytes) (byte_pieces bytes)

-- the elements of a typed array (RFC 8746), each with its value
abbrev pub element_lines : ℕ → ℕ → ℕ → List ℕ → List DumpLine
element_lines depth t size bytes =
    map (λ e. piece_line depth e (unwrap_or (element_text t e) []))
    (pieces_of (λ rest. min (length rest) size) (length bytes) bytes)

-- where the tag above has elements of this size, and the bytes are whole elements, these are shown
abbrev pub sized_lines : ℕ → Option Encoding → ℕ → Option ℕ → List ℕ → List DumpLine
sized_lines depth encoding t None bytes = bytes_lines depth encoding bytes
sized_lines depth encoding t (Some size) bytes =
    if length bytes % size == 0 then element_lines depth t size bytes else bytes_lines depth encoding bytes

-- the content of a byte string, by the tag right above it
abbrev pub tagged_lines : ℕ → Option Encoding → Option ℕ → List ℕ → List DumpLine
tagged_lines depth encoding None bytes = bytes_lines depth encoding bytes
tagged_lines depth encoding (Some t) bytes = sized_lines depth encoding t (element_size t) bytes

-- what a string is called in a comment
abbrev pub string_word : StringKind → List ℕ
string_word Bytes = codes "bytes"
string_word Text = codes "text"

-- the content of a string there, one deeper
abbrev pub string_content_lines : StringKind → Context → List ℕ → List DumpLine
string_content_lines Bytes p bytes = tagged_lines (p.depth + 1) p.encoding p.tag bytes
string_content_lines Text p bytes = content_lines (p.depth + 1) text_comment (text_pieces bytes)

-- a string of definite length: its head, and its content
abbrev pub string_lines : StringKind → Context → Chunk → List DumpLine
string_lines kind p c =
    head_line p.depth (encoded_head (major_of kind) (length c.bytes) c.width)
    (counted_comment (string_word kind) (Some (length c.bytes)))
    ∷ string_content_lines kind p c.bytes

-- the opening byte of an indefinite length, and the break that ends it, one deeper
abbrev pub open_line : ℕ → ℕ → List ℕ → DumpLine
open_line depth major name = head_line depth (opening major ∷ []) (counted_comment name None)

abbrev pub break_line : ℕ → DumpLine
break_line depth = head_line depth (break_byte ∷ []) break_comment

-- a string of indefinite length: its chunks between the two
abbrev pub chunks_lines : StringKind → Context → List Chunk → List DumpLine
chunks_lines kind p cs =
    open_line p.depth (major_of kind) (string_word kind)
    ∷ (flat_map (string_lines kind (inside p)) cs ++ break_line (p.depth + 1) ∷ [])

abbrev pub atom_lines : Context → Atom → List DumpLine
atom_lines p (integer n w) = head_line p.depth (encoded_head 0 n w) (unsigned_comment n) ∷ []
atom_lines p (negative n w) = head_line p.depth (encoded_head 1 n w) (negative_comment n) ∷ []
atom_lines p (string kind c) = string_lines kind p c
atom_lines p (chunked_string kind cs) = chunks_lines kind p cs
atom_lines p (float bits w) = head_line p.depth (encoded_float bits w) (float_comment (encoded_float bits w)) ∷ []
atom_lines p (simple n) = head_line p.depth (encoded_simple n) (simple_comment n) ∷ []

-- ---- containers

-- the line before the members of a container, with their count unless the length is indefinite, and those after them
abbrev pub count_if_definite : ℕ → Option IntegerWidth → Option ℕ
count_if_definite n (Some w) = Some n
count_if_definite n None = None

abbrev pub container_line : ℕ → ℕ → List ℕ → ℕ → Option IntegerWidth → DumpLine
container_line depth major name n w = head_line depth (encoded_open major n w)
    (counted_comment name (count_if_definite n w))

abbrev pub close_lines : ℕ → Option IntegerWidth → List DumpLine
close_lines depth (Some w) = []
close_lines depth None = break_line depth ∷ []

-- ---- shared values

-- how many values were shared when the value below a tag begins: one more below tag 28
abbrev pub shared_from : ℕ → ℕ → ℕ
shared_from t n = if t == 28 then suc n else n

-- how many values are shared in an item, itself counted
abbrev mutual
  pub shared_in : Item → ℕ
  shared_in (atom a) = 0
  shared_in (array is w) = shared_in_items is
  shared_in (spec.map ps w) = shared_in_pairs ps
  shared_in (tagged t w i) = shared_from t (shared_in i)

  pub shared_in_items : Items → ℕ
  shared_in_items no_items = 0
  shared_in_items (item i is) = shared_in i + shared_in_items is

  pub shared_in_pairs : Pairs → ℕ
  shared_in_pairs no_pairs = 0
  shared_in_pairs (pair k v ps) = shared_in k + (shared_in v + shared_in_pairs ps)

-- ---- notes

-- a line without digits
abbrev pub note_line : ℕ → List ℕ → DumpLine
note_line depth text = record { depth = depth; hex = []; comment = text }

-- a note, and what belongs to it one deeper
abbrev pub note_lines : ℕ → Note → List DumpLine
note_lines depth note = note_line depth note.text ∷ map (note_line (depth + 1)) note.below

-- an embedded item: its own dump in columns of its own, a text for each line
abbrev pub embedded_note : List DumpLine → Note
embedded_note lines = record { text = codes "encoded cbor data item"; below = map (row (width_of lines)) lines }

-- what cannot be read, and the error
abbrev pub failed_note : List ℕ → Error → Note
failed_note what e = record { text = what; below = text_of e ∷ [] }

-- the bytes of a byte string of definite length
abbrev pub bytes_in : Item → Option (List ℕ)
bytes_in (atom (string Bytes c)) = Some c.bytes
bytes_in _ = None

-- tag 24: the item that the bytes encode, with the lines that `dump` gives it (RFC 7049 section 2.4.4.1)
abbrev pub whole_note : (Item → List DumpLine) → Read Item → Note
whole_note dump (Ok (i, [])) = embedded_note (dump i)
whole_note dump (Ok (i, rest)) = failed_note (codes "failed to parse encoded cbor data item") Remaining
whole_note dump (Err e) = failed_note (codes "failed to parse encoded cbor data item") e

abbrev pub encoded_item_note : ℕ → (Item → List DumpLine) → Option (List ℕ) → Note
encoded_item_note left dump (Some bytes) = whole_note dump (read_item left bytes)
encoded_item_note left dump None = plain_note (codes "invalid type for encoded cbor data item")

-- tag 63: each item of a sequence, and what is left after the last one (RFC 8742)
abbrev pub items_notes : (Item → List DumpLine) → Items → List Note
items_notes dump no_items = []
items_notes dump (item i is) = embedded_note (dump i) ∷ items_notes dump is

-- the bytes after a sequence, if there are any, and the error; no item begins with them
abbrev pub rest_note : List ℕ → Read Item → Option Note
rest_note [] read = None
rest_note rest (Ok x) = None
rest_note rest (Err e) = Some (failed_note (codes "failed to parse remaining encoded cbor sequence") e)

abbrev pub sequence_notes : ℕ → (Item → List DumpLine) → Items × List ℕ → List Note
sequence_notes left dump s = items_notes dump s.0 ++ option_to_list (rest_note s.1 (read_item left s.1))

abbrev pub encoded_sequence_notes : ℕ → (Item → List DumpLine) → Option (List ℕ) → List Note
encoded_sequence_notes left dump (Some bytes) = sequence_notes left dump (sequence_at left bytes)
encoded_sequence_notes left dump None = plain_note (codes "invalid type for encoded cbor sequence") ∷ []

-- The notes on the value right below a tag, where `left` levels are left for what is embedded in it and
-- `known` values were shared before the tag.
abbrev pub notes : ℕ → (Item → List DumpLine) → ℕ → ℕ → Item → List Note
notes left dump known t i =
    if t == 24 then encoded_item_note left dump (bytes_in i) ∷ []
    else if t == 63 then encoded_sequence_notes left dump (bytes_in i)
    else option_to_list (value_note known t i)

abbrev pub notes_lines : ℕ → ℕ → (Item → List DumpLine) → ℕ → Option ℕ → Item → List DumpLine
notes_lines depth left dump known None i = []
notes_lines depth left dump known (Some t) i = flat_map (note_lines depth) (notes left dump known t i)

-- ---- items

-- the items of a container in order, each written by `write`; `known` values were shared before
abbrev pub items_lines : (ℕ → Item → List DumpLine) → ℕ → Items → List DumpLine
items_lines write known no_items = []
items_lines write known (item i is) = write known i ++ items_lines write (known + shared_in i) is

-- keys and values in turn
abbrev pub pairs_lines : (ℕ → Item → List DumpLine) → ℕ → Pairs → List DumpLine
pairs_lines write known no_pairs = []
pairs_lines write known (pair k v ps) =
    write known k ++ (write (known + shared_in k) v ++ pairs_lines write (known + shared_in k + shared_in v) ps)

-- what an item's bytes are; what a container or a tag holds is one deeper
abbrev pub parts_lines : (Context → ℕ → Item → List DumpLine) → Context → ℕ → Item → List DumpLine
parts_lines write p known (atom a) = atom_lines p a
parts_lines write p known (array is w) =
    container_line p.depth 4 (codes "array") (item_count is) w
    ∷ (items_lines (write (inside p)) known is ++ close_lines (p.depth + 1) w)
parts_lines write p known (spec.map ps w) =
    container_line p.depth 5 (codes "map") (pair_count ps) w
    ∷ (pairs_lines (write (inside p)) known ps ++ close_lines (p.depth + 1) w)
parts_lines write p known (tagged t w i) =
    head_line p.depth (encoded_head 6 t w) (tag_comment t)
    ∷ write (below t known p) (shared_from t known) i

-- An item with this many levels left for it and what is nested in it, embedded items included: `levels_left` of its
-- level. Its notes follow it, as deep as it is. An embedded item has a dump of its own, which counts shared values
-- from 0. Where no level is left there is no item.
unfoldable pub lines_at : ℕ → Context → ℕ → Item → List DumpLine
lines_at zero p known i = []
lines_at (suc left) p known i =
    parts_lines (lines_at left) p known i ++ notes_lines p.depth left (lines_at left top 0) p.shared p.tag i

-- the lines of an item at this level
abbrev pub lines_at_level : ℕ → Context → ℕ → Item → List DumpLine
lines_at_level level = lines_at (levels_left level)

-- the lines of a whole item, and its dump
abbrev pub lines : Item → List DumpLine
lines i = lines_at_level 1 top 0 i

abbrev pub dump : Item → List ℕ
dump i = layout (lines i)
