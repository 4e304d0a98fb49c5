-- `decoded`: the value of the item that bytes encode, without widths and chunks, and with the pairs of maps in the
-- order of their keys (`decoded_sequence`, for items one after the other). There is no value if a map has a key twice.
use Rattle.std.specs.Prelude.{ℕ, ◌%◌, ◌^◌, List, [], ◌∷◌, map, pos, negsuc, Bool, false, ◌||◌, if◌then◌else◌}
use Rattle.std.specs.Prelude.{Option, Some, None, is_some}
use Rattle.std.specs.List.{flat_map}
use Rattle.std.specs.declared.cmp.Ordering.{Ordering}
use Rattle.std.specs.Cmp.Lexicographic.{slice_cmp}
use Rattle.std.specs.Ordering.{nat_cmp}
use Rattle.std.specs.Map.{lookup}
use Rattle.std.specs.BTreeMap.{insert_entry, is_at}
use Rattle.cbor_floats.specs.declared.float.EncodedFloat.{EncodedFloat}
use Rattle.cbor_floats.specs.declared.float.EncodedFloat.TheVariants.{Half, Single, Double}
use Rattle.cbor_floats.specs.Value as floats
use Rattle.cbor_floats.specs.Preferred.{shorter}
use Rattle.cbor_grammar.specs.declared.width.IntegerWidth.TheVariants.{Unknown}
use Rattle.cbor_grammar.specs.declared.width.FloatWidth.{FloatWidth}
use Rattle.cbor_grammar.specs.declared.width.FloatWidth.TheVariants as float_width
use Rattle.cbor_grammar.specs.declared.strings.StringKind.{StringKind}
use Rattle.cbor_grammar.specs.declared.strings.StringKind.TheVariants.{Bytes, Text}
use Rattle.cbor_grammar.specs.Item as item
use Rattle.cbor_grammar.specs.Item.{Chunk, Atom, Item, Items, Pairs}
use Rattle.cbor_grammar.specs.Written.{encoded}
use Rattle.cbor_grammar.specs.Embedded.{embedded, sequence}
use Rattle.cbor_fits.specs.Value as spec
use Rattle.cbor_fits.specs.Value.{Value, Values, pairs_of}

-- a float by the bits of its width; an unstated width has 64
abbrev pub float_of : ℕ → FloatWidth → EncodedFloat
float_of bits float_width.Sixteen = Half (bits % 2 ^ 16)
float_of bits float_width.ThirtyTwo = Single (bits % 2 ^ 32)
float_of bits float_width.SixtyFour = Double bits
float_of bits float_width.Unknown = Double bits

-- the content of chunks, joined
abbrev pub content_of : List Chunk → List ℕ
content_of cs = flat_map (λ c. c.bytes) cs

abbrev pub string_value : StringKind → List ℕ → Value
string_value Bytes content = spec.bytes content
string_value Text content = spec.text content

-- the value of an item that holds no item
abbrev pub atom_value : Atom → Value
atom_value (item.integer n w) = spec.integer (pos n)
atom_value (item.negative n w) = spec.integer (negsuc n)
atom_value (item.string kind c) = string_value kind c.bytes
atom_value (item.chunked_string kind cs) = string_value kind (content_of cs)
atom_value (item.float bits w) = spec.float (floats.value_of (float_of bits w))
atom_value (item.simple n) = spec.simple n

-- ---- the order of keys

-- the float in the shortest width that has it
abbrev pub preferred_or : EncodedFloat → Option EncodedFloat → EncodedFloat
preferred_or float None = float
preferred_or float (Some shorter) = shorter

abbrev pub float_atom : EncodedFloat → Atom
float_atom (Half bits) = item.float bits float_width.Sixteen
float_atom (Single bits) = item.float bits float_width.ThirtyTwo
float_atom (Double bits) = item.float bits float_width.SixtyFour

abbrev pub core_float : EncodedFloat → Atom
core_float float = float_atom (preferred_or float (shorter float))

-- a string of definite length, whose length has no stated width
abbrev pub unstated : List ℕ → Chunk
unstated content = record { bytes = content; width = Unknown }

abbrev pub core_string : StringKind → List ℕ → Atom
core_string kind content = item.string kind (unstated content)

-- the item as the core deterministic encoding has it (RFC 8949, section 4.2.1)
abbrev pub core_atom : Atom → Atom
core_atom (item.integer n w) = item.integer n Unknown
core_atom (item.negative n w) = item.negative n Unknown
core_atom (item.string kind c) = core_string kind c.bytes
core_atom (item.chunked_string kind cs) = core_string kind (content_of cs)
core_atom (item.float bits w) = core_float (float_of bits w)
core_atom (item.simple n) = item.simple n

-- the key as it is compared: arrays, maps and tags as they are
abbrev pub core_key : Item → Item
core_key (item.atom a) = item.atom (core_atom a)
core_key (item.array is w) = item.array is w
core_key (item.map ps w) = item.map ps w
core_key (item.tagged t w i) = item.tagged t w i

abbrev pub key_bytes : Item → List ℕ
key_bytes k = encoded (core_key k)

-- the bytes of a key, with the key and its value
abbrev pub Entry : Type 0
Entry = List ℕ × (Value × Value)

-- which key comes first: by their bytes, from the first on; a front of a key comes before it
abbrev pub key_order : List ℕ → List ℕ → Ordering
key_order = slice_cmp nat_cmp

-- entries in the order of their keys, and one more
abbrev pub with_entry : List Entry → Entry → List Entry
with_entry es e = insert_entry key_order es e.0 e.1

-- more entries, each put where it belongs
abbrev pub with_entries : List Entry → List Entry → List Entry
with_entries sorted [] = sorted
with_entries sorted (e ∷ es) = with_entries (with_entry sorted e) es

-- the pairs of entries, in the order of their keys
abbrev pub in_order : List Entry → List (Value × Value)
in_order es = map (λ e. e.1) (with_entries [] es)

-- whether one of the entries has this key
abbrev pub has_key : List Entry → List ℕ → Bool
has_key es k = is_some (lookup (is_at (key_order k)) es)

-- whether one of more entries has the key of an entry before it
abbrev pub a_key_stands_twice : List Entry → List Entry → Bool
a_key_stands_twice sorted [] = false
a_key_stands_twice sorted (e ∷ es) = has_key sorted e.0 || a_key_stands_twice (with_entry sorted e) es

-- ---- items

abbrev mutual
  -- the value of an item
  pub value_of : Item → Value
  value_of (item.atom a) = atom_value a
  value_of (item.array is w) = spec.array (values_of_items is)
  value_of (item.map ps w) = spec.map (pairs_of (in_order (entries ps)))
  value_of (item.tagged t w i) = spec.tagged t (value_of i)

  pub values_of_items : Items → Values
  values_of_items item.no_items = spec.no_values
  values_of_items (item.item i is) = spec.value (value_of i) (values_of_items is)

  pub entries : Pairs → List Entry
  entries item.no_pairs = []
  entries (item.pair k v ps) = (key_bytes k, (value_of k, value_of v)) ∷ entries ps

abbrev mutual
  -- whether a map in the item has a key twice
  pub has_key_twice : Item → Bool
  has_key_twice (item.atom a) = false
  has_key_twice (item.array is w) = items_have_key_twice is
  has_key_twice (item.map ps w) = pairs_have_key_twice ps || a_key_stands_twice [] (entries ps)
  has_key_twice (item.tagged t w i) = has_key_twice i

  pub items_have_key_twice : Items → Bool
  items_have_key_twice item.no_items = false
  items_have_key_twice (item.item i is) = has_key_twice i || items_have_key_twice is

  pub pairs_have_key_twice : Pairs → Bool
  pairs_have_key_twice item.no_pairs = false
  pairs_have_key_twice (item.pair k v ps) = has_key_twice k || (has_key_twice v || pairs_have_key_twice ps)

-- the value of an item, if each map in it has each key once
abbrev pub valid_value : Item → Option Value
valid_value i = if has_key_twice i then None else Some (value_of i)

abbrev pub valid_value_of : Option Item → Option Value
valid_value_of None = None
valid_value_of (Some i) = valid_value i

-- the value of the item that the bytes encode, if they encode one in which each map has each key once
unfoldable pub decoded : List ℕ → Option Value
decoded b = valid_value_of (embedded 1 b)

abbrev pub array_of_all : Items × List ℕ → Option Value
array_of_all (is, []) = if items_have_key_twice is then None else Some (spec.array (values_of_items is))
array_of_all (is, first ∷ b) = None

-- the array of the values of the items that the bytes encode one after the other, if they encode nothing else, and each
-- map in them has each key once
unfoldable pub decoded_sequence : List ℕ → Option Value
decoded_sequence b = array_of_all (sequence 1 b)
