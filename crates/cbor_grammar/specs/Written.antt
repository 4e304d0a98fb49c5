-- The encoding that a writer gives an item, and the item that this encoding reads as (RFC 7049 section 2).
use Rattle.std.specs.Prelude.{ℕ, ◌+◌, List, [], ◌∷◌, ◌++◌, length, map, Option, Some, None, nat_lt, if◌then◌else◌}
use Rattle.std.specs.List.{flat_map}
use Rattle.std.specs.Int.{w16, w32, w64, to_be_bytes}
use Rattle.cbor_grammar.specs.declared.width.IntegerWidth.{IntegerWidth}
use Rattle.cbor_grammar.specs.declared.width.FloatWidth.{FloatWidth}
use Rattle.cbor_grammar.specs.declared.width.FloatWidth.TheVariants as float_width
use Rattle.cbor_grammar.specs.Item as spec
use Rattle.cbor_grammar.specs.Item.{Chunk, Atom, integer, negative, string, chunked_string, float, simple, Item, atom}
use Rattle.cbor_grammar.specs.Item.{array, tagged, Items, no_items, item, Pairs, no_pairs, pair, item_count, pair_count}
use Rattle.cbor_grammar.specs.StringKind.{major_of}
use Rattle.cbor_grammar.specs.Head.{stated, head, opening, break_byte}

-- a head, an unstated width being the shortest that fits
abbrev pub encoded_head : ℕ → ℕ → IntegerWidth → List ℕ
encoded_head major n w = head major n (stated w n)

-- a string of definite length
abbrev pub encoded_chunk : ℕ → Chunk → List ℕ
encoded_chunk major c = encoded_head major (length c.bytes) c.width ++ c.bytes

-- an indefinite string: its chunks between the opening byte and the break
abbrev pub encoded_chunks : ℕ → List Chunk → List ℕ
encoded_chunks major cs = opening major ∷ (flat_map (encoded_chunk major) cs ++ break_byte ∷ [])

-- a float's bits, an unstated width being 64 bits
abbrev pub encoded_float : ℕ → FloatWidth → List ℕ
encoded_float bits float_width.Unknown = 0xfb ∷ to_be_bytes w64 bits
encoded_float bits float_width.Sixteen = 0xf9 ∷ to_be_bytes w16 bits
encoded_float bits float_width.ThirtyTwo = 0xfa ∷ to_be_bytes w32 bits
encoded_float bits float_width.SixtyFour = 0xfb ∷ to_be_bytes w64 bits

-- a simple value in one byte where it is below 24, else in two
abbrev pub encoded_simple : ℕ → List ℕ
encoded_simple n = if nat_lt n 24 then (0xe0 + n) ∷ [] else 0xf8 ∷ n ∷ []

-- the encoding of an item that holds no item
abbrev pub encoded_atom : Atom → List ℕ
encoded_atom (integer n w) = encoded_head 0 n w
encoded_atom (negative n w) = encoded_head 1 n w
encoded_atom (string kind c) = encoded_chunk (major_of kind) c
encoded_atom (chunked_string kind cs) = encoded_chunks (major_of kind) cs
encoded_atom (float bits w) = encoded_float bits w
encoded_atom (simple n) = encoded_simple n

-- what comes before a container's members: a head with their count, or an opening byte
abbrev pub encoded_open : ℕ → ℕ → Option IntegerWidth → List ℕ
encoded_open major n (Some w) = encoded_head major n w
encoded_open major n None = opening major ∷ []

-- what comes after them: nothing, or the break
abbrev pub encoded_close : Option IntegerWidth → List ℕ
encoded_close (Some w) = []
encoded_close None = break_byte ∷ []

-- The encoding of an item: each head in its width, or in the shortest that fits where it is open.
abbrev mutual
  pub encoded : Item → List ℕ
  encoded (atom a) = encoded_atom a
  encoded (array is w) = encoded_open 4 (item_count is) w ++ (encoded_items is ++ encoded_close w)
  encoded (spec.map ps w) = encoded_open 5 (pair_count ps) w ++ (encoded_pairs ps ++ encoded_close w)
  encoded (tagged t w i) = encoded_head 6 t w ++ encoded i

  pub encoded_items : Items → List ℕ
  encoded_items no_items = []
  encoded_items (item i is) = encoded i ++ encoded_items is

  pub encoded_pairs : Pairs → List ℕ
  encoded_pairs no_pairs = []
  encoded_pairs (pair k v ps) = encoded k ++ (encoded v ++ encoded_pairs ps)

-- a string with the width that its length is written in
abbrev pub resolve_chunk : Chunk → Chunk
resolve_chunk c = record { bytes = c.bytes; width = stated c.width (length c.bytes) }

abbrev pub resolve_float : FloatWidth → FloatWidth
resolve_float float_width.Unknown = float_width.SixtyFour
resolve_float w = w

abbrev pub resolve_atom : Atom → Atom
resolve_atom (integer n w) = integer n (stated w n)
resolve_atom (negative n w) = negative n (stated w n)
resolve_atom (string kind c) = string kind (resolve_chunk c)
resolve_atom (chunked_string kind cs) = chunked_string kind (map resolve_chunk cs)
resolve_atom (float bits w) = float bits (resolve_float w)
resolve_atom (simple n) = simple n

-- the width that a count is written in, where the length is definite
abbrev pub resolve_count : Option IntegerWidth → ℕ → Option IntegerWidth
resolve_count None n = None
resolve_count (Some w) n = Some (stated w n)

-- The item with each unstated width replaced by the one that it is written in. Nothing else changes, bytes
-- that are an encoded item included.
abbrev mutual
  pub resolve : Item → Item
  resolve (atom a) = atom (resolve_atom a)
  resolve (array is w) = array (resolve_items is) (resolve_count w (item_count is))
  resolve (spec.map ps w) = spec.map (resolve_pairs ps) (resolve_count w (pair_count ps))
  resolve (tagged t w i) = tagged t (stated w t) (resolve i)

  pub resolve_items : Items → Items
  resolve_items no_items = no_items
  resolve_items (item i is) = item (resolve i) (resolve_items is)

  pub resolve_pairs : Pairs → Pairs
  resolve_pairs no_pairs = no_pairs
  resolve_pairs (pair k v ps) = pair (resolve k) (resolve v) (resolve_pairs ps)
