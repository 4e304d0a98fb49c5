-- A few items and their bytes, which the definitions are checked against.
use Rattle.std.specs.Prelude.{ℕ, zero, suc, List, [], ◌∷◌, codes, Some, None}
use Rattle.cbor_grammar.specs.declared.width.IntegerWidth.TheVariants.{Unknown, Zero, Eight}
use Rattle.cbor_grammar.specs.Item as spec
use Rattle.cbor_grammar.specs.Item.{Chunk, Item, Items, atom, array, tagged, integer, string, chunked_string, simple}
use Rattle.cbor_grammar.specs.Item.{no_items, item, no_pairs, pair}
use Rattle.cbor_grammar.specs.declared.strings.StringKind.TheVariants.{Bytes, Text}

abbrev pub small : ℕ → Item
small n = atom (integer n Zero)

-- tag 32 over the text https://example.com
abbrev pub uri : Item
uri = tagged 32 Eight (atom (string Text (record { bytes = codes "https://example.com"; width = Zero })))

abbrev pub uri_bytes : List ℕ
uri_bytes = 0xd8 ∷ 0x20 ∷ 0x73 ∷ codes "https://example.com"

-- [1, 2, 3] with a count in one byte, and {_ 1: 2}
abbrev pub three : Item
three = array (item (small 1) (item (small 2) (item (small 3) no_items))) (Some Eight)

abbrev pub open_map : Item
open_map = spec.map (pair (small 1) (small 2) no_pairs) None

-- an array of an open count, and the same array with the width that it is written in
abbrev pub open_count : Item
open_count = array (item (small 0) no_items) (Some Unknown)

abbrev pub resolved_count : Item
resolved_count = array (item (small 0) no_items) (Some Zero)

-- a byte string of these bytes, its length in the first byte
abbrev pub bytes : List ℕ → Item
bytes b = atom (string Bytes (record { bytes = b; width = Zero }))

-- a tag of one byte over these bytes
abbrev pub over_bytes : ℕ → List ℕ → Item
over_bytes tag b = tagged tag Eight (bytes b)

-- Tag 24 over the bytes of another tag 24, over a simple value in a non-minimal encoding (`f8 14`); and the bytes of
-- its normal form: the length needs no byte of its own, and the value has one.
abbrev pub nested_tag : Item
nested_tag = over_bytes 24 (0xd8 ∷ 0x18 ∷ 0x58 ∷ 0x02 ∷ 0xf8 ∷ 0x14 ∷ [])

-- tag 21 over bytes, tag 24 over the same bytes as an item, and tag 23 over them
abbrev pub encodings : Item
encodings =
    tagged 21 Zero (array (item (bytes (255 ∷ []))
    (item (over_bytes 24 (0x41 ∷ 255 ∷ [])) (item (tagged 23 Zero (bytes (255 ∷ []))) no_items))) (Some Zero))

-- an array of `n` ones
abbrev pub repeated : ℕ → Item → Items
repeated zero i = no_items
repeated (suc n) i = item i (repeated n i)

abbrev pub ones : ℕ → Item
ones n = array (repeated n (small 1)) (Some Zero)

-- an indefinite byte string of two chunks
abbrev pub two_chunks : Item
two_chunks = atom (chunked_string Bytes
    (record { bytes = 1 ∷ []; width = Zero } ∷ record { bytes = 2 ∷ []; width = Zero } ∷ []))

-- a chunk of these bytes, its length in the first byte
abbrev pub zero_chunk : List ℕ → Chunk
zero_chunk content = record { bytes = content; width = Zero }

-- a map whose key is shared, and its value too, which refers to the key
abbrev pub shared_values : Item
shared_values = spec.map (pair (tagged 28 Eight (small 1)) (tagged 28 Eight (tagged 29 Eight (small 0))) no_pairs)
    (Some Zero)

-- `n` arrays of one member, one in the other, and then 1; and as bytes
abbrev pub nested : ℕ → Item
nested zero = small 1
nested (suc n) = array (item (nested n) no_items) (Some Zero)

abbrev pub nested_bytes : ℕ → List ℕ
nested_bytes zero = 1 ∷ []
nested_bytes (suc n) = 0x81 ∷ nested_bytes n

-- byte strings of an unstated width
abbrev pub chunk : List ℕ → Chunk
chunk content = record { bytes = content; width = Unknown }

abbrev pub open_bytes : List ℕ → Item
open_bytes content = atom (string Bytes (chunk content))

-- texts that are no item in diagnostic notation
abbrev pub no_items_in_notation : List (List ℕ)
no_items_in_notation =
    codes "" ∷ codes "/x" ∷ codes "1_4" ∷ codes "1.5" ∷ codes "-0" ∷ codes "300_0" ∷ codes "18446744073709551616"
    ∷ codes "32 (1)"
    ∷ codes "[1,]" ∷ codes "[1,/x/ ]" ∷ codes "[,1]" ∷ codes "{1}" ∷ codes "h' '" ∷ codes "h'0'" ∷ codes "b32'MZXW7==='"
    ∷ codes "'\\n'"
    ∷ codes "h'61' \"b\"" ∷ codes "h''_" ∷ codes "(_''_)" ∷ codes "<<1> >"
    ∷ codes "simple(256)" ∷ codes "simple( 1)" ∷ codes "float'3c0'" ∷ codes "1 2" ∷ []
