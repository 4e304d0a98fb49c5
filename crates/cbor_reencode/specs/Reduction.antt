-- The form of numbers that rules may ask for (`reduced_item`): a float whose value is an integer from -2^63 to 2^64 - 1
-- becomes that integer, a NaN becomes f97e00, and a big number becomes an integer if it fits, or else loses its leading
-- zero bytes. `IsSameNumbered`: two items are the same but for these forms, widths, kinds of length and the order of
-- pairs.
use Rattle.std.specs.Prelude.{ℕ, ◌+◌, ◌-◌, ◌*◌, ◌^◌, Bool, ◌&&◌, ◌||◌, ◌==◌, nat_lt, if◌then◌else◌, is_nan, List}
use Rattle.std.specs.Prelude.{[], ◌∷◌}
use Rattle.std.specs.Prelude.{Option, Some, None}
use Rattle.std.specs.List.{flat_map}
use Rattle.cbor_grammar.specs.declared.width.IntegerWidth.{IntegerWidth}
use Rattle.cbor_grammar.specs.declared.width.IntegerWidth.TheVariants as width
use Rattle.cbor_grammar.specs.declared.width.FloatWidth.TheVariants as float_width
use Rattle.cbor_grammar.specs.declared.strings.StringKind.TheVariants.{Bytes}
use Rattle.cbor_grammar.specs.Item as spec
use Rattle.cbor_grammar.specs.Item.{Atom, integer, negative, string, chunked_string, float, Item, atom, array, tagged}
use Rattle.cbor_grammar.specs.Item.{Items, no_items, item, Pairs, no_pairs, pair}
use Rattle.cbor_floats.specs.declared.float.EncodedFloat.{EncodedFloat}
use Rattle.cbor_rules.specs.declared.rules.Rules.{Rules}
use Rattle.cbor_rules.specs.Keeps.{float_of}
use Rattle.cbor_rules.specs.Reduced.{number_of, reduced}
use Rattle.cbor_rules.specs.Same.{whole, IsSame, SameItems}

-- ---- floats

-- the integer of this sign and this size; -0 is 0
abbrev pub sized : Bool → ℕ → Atom
sized below n = if below && nat_lt 0 n then negative (n - 1) width.Unknown else integer n width.Unknown

abbrev pub sized_or : Option (Bool × ℕ) → Atom → Atom
sized_or None a = a
sized_or (Some n) a = sized n.0 n.1

-- the integer that a float is, f97e00 for a NaN, and each other float as it stands (dCBOR, numeric reduction)
abbrev pub reduced_float : EncodedFloat → Atom → Atom
reduced_float f a =
    sized_or (reduced f) (if is_nan (number_of f) then float 0x7e00 float_width.Sixteen else a)

abbrev pub reduced_atom : Rules → Atom → Atom
reduced_atom rules (float bits w) =
    if rules.reduced_floats then reduced_float (float_of bits w) (float bits w) else float bits w
reduced_atom rules a = a

-- ---- big numbers (RFC 8949 section 3.4.3)

-- the number that these bytes are, the most significant first, after a front that is this number
abbrev pub big_endian : ℕ → List ℕ → ℕ
big_endian front [] = front
big_endian front (digit ∷ digits) = big_endian (256 * front + digit) digits

abbrev pub without_zeros : List ℕ → List ℕ
without_zeros [] = []
without_zeros (digit ∷ digits) = if digit == 0 then without_zeros digits else digit ∷ digits

-- The content of a big number: a byte string, or its concatenated chunks.
abbrev pub content_of : Item → Option (List ℕ)
content_of (atom (string Bytes c)) = Some c.bytes
content_of (atom (chunked_string Bytes cs)) = Some (flat_map (λ c. c.bytes) cs)
content_of i = None

-- what an integer is for a big number of this tag: 3 is for those below zero
abbrev pub small_number : ℕ → ℕ → Atom
small_number tag n = if tag == 3 then negative n width.Unknown else integer n width.Unknown

-- a big number of this tag and content
abbrev pub big_number : ℕ → List ℕ → Item
big_number tag content =
    if nat_lt (big_endian 0 content) (2 ^ 64) then atom (small_number tag (big_endian 0 content))
    else tagged tag width.Unknown (atom (string Bytes (whole (without_zeros content))))

abbrev pub big_or : ℕ → Option (List ℕ) → Item → Item
big_or tag None i = i
big_or tag (Some content) i = big_number tag content

abbrev pub is_big : Rules → ℕ → Bool
is_big rules tag = rules.big_numbers && ((tag == 2) || (tag == 3))

-- a tag before an item
abbrev pub reduced_tag : Rules → ℕ → IntegerWidth → Item → Item
reduced_tag rules tag w i = if is_big rules tag then big_or tag (content_of i) (tagged tag w i) else tagged tag w i

-- ---- items

abbrev mutual
  pub reduced_item : Rules → Item → Item
  reduced_item rules (atom a) = atom (reduced_atom rules a)
  reduced_item rules (array is w) = array (reduced_items rules is) w
  reduced_item rules (spec.map ps w) = spec.map (reduced_pairs rules ps) w
  reduced_item rules (tagged tag w i) = reduced_tag rules tag w (reduced_item rules i)

  pub reduced_items : Rules → Items → Items
  reduced_items rules no_items = no_items
  reduced_items rules (item i is) = item (reduced_item rules i) (reduced_items rules is)

  pub reduced_pairs : Rules → Pairs → Pairs
  reduced_pairs rules no_pairs = no_pairs
  reduced_pairs rules (pair k v ps) = pair (reduced_item rules k) (reduced_item rules v) (reduced_pairs rules ps)

-- The items are the same but for widths, kinds of length, the order of pairs, and the forms of numbers that the rules
-- leave no choice of. The widths of floats are the same unless the rules ask for the shortest.
abbrev pub IsSameNumbered : Rules → Item → Item → Type 0
IsSameNumbered rules i j = IsSame rules.shortest_floats (reduced_item rules i) (reduced_item rules j)

abbrev pub SameNumbered : Rules → Items → Items → Type 0
SameNumbered rules is js = SameItems rules.shortest_floats (reduced_items rules is) (reduced_items rules js)
