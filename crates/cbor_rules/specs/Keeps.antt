-- Which items keep the rules (`Keeps`; RFC 8949 sections 4.1 and 4.2), and which bytes encode such items
-- (`KeepsRules`). An item has the widths and the kinds of length that its bytes have.
use Rattle.std.specs.Prelude.{◌≡◌, ◌≢◌, ℕ, ◌+◌, ◌<◌, ◌≤◌, List, [], length, Option, Some, None, false, IsTrue}
use Rattle.std.specs.Prelude.{◌⊎◌, is_nan, chars, slice_index}
use Rattle.std.specs.List.{AllByRecursion}
use Rattle.std.specs.declared.cmp.Ordering.TheVariants.{Less}
use Rattle.cbor_grammar.specs.declared.width.IntegerWidth.{IntegerWidth}
use Rattle.cbor_grammar.specs.declared.width.FloatWidth.{FloatWidth}
use Rattle.cbor_grammar.specs.declared.width.FloatWidth.TheVariants as float_width
use Rattle.cbor_grammar.specs.declared.strings.StringKind.{StringKind}
use Rattle.cbor_grammar.specs.declared.strings.StringKind.TheVariants.{Bytes, Text}
use Rattle.cbor_grammar.specs.Head.{shortest}
use Rattle.cbor_grammar.specs.Written.{encoded}
use Rattle.cbor_grammar.specs.Bytes.{strict, SpellsItems}
use Rattle.cbor_grammar.specs.Item as spec
use Rattle.cbor_grammar.specs.Item.{Chunk, Atom, integer, negative, string, chunked_string, float, simple, Item, atom}
use Rattle.cbor_grammar.specs.Item.{array, tagged, Items, no_items, item, Pairs, no_pairs, pair, item_count, pair_count}
use Rattle.unicode_normalization.specs.Forms.{Nfc, IsInForm}
use Rattle.cbor_floats.specs.Preferred.{IsPreferred}
use Rattle.cbor_floats.specs.declared.float.EncodedFloat.{EncodedFloat}
use Rattle.cbor_floats.specs.declared.float.EncodedFloat.TheVariants.{Half, Single, Double}
use Rattle.cbor_rules.specs.declared.rules.Rules.{Rules}
use Rattle.cbor_rules.specs.declared.rules.KeyOrder.{KeyOrder}
use Rattle.cbor_rules.specs.KeyOrder.{key_cmp}
use Rattle.cbor_rules.specs.Reduced.{number_of, reduced}

-- The number of a head is in the shortest width that it fits (RFC 8949 section 4.2.1, the first rule).
abbrev pub KeepsNumber : Rules → ℕ → IntegerWidth → Type 0
KeepsNumber rules n w = IsTrue rules.shortest_heads → w ≡ shortest n

-- the count of an array or a map, which has no width where its length is indefinite
abbrev pub KeepsCount : Rules → ℕ → Option IntegerWidth → Type 0
KeepsCount rules n (Some w) = KeepsNumber rules n w
KeepsCount rules n None = ¬ (IsTrue rules.definite_lengths)

-- A text is in the normal form NFC (Unicode Standard Annex 15).
abbrev pub KeepsContent : Rules → StringKind → List ℕ → Type 0
KeepsContent rules Text bytes = IsTrue rules.nfc → IsInForm Nfc (chars bytes)
KeepsContent rules Bytes bytes = Unit {0}

-- a string of definite length, or a chunk
abbrev pub KeepsChunk : Rules → StringKind → Chunk → Type 0
KeepsChunk rules kind c = KeepsNumber rules (length c.bytes) c.width × KeepsContent rules kind c.bytes

-- the float of these bits
abbrev pub float_of : ℕ → FloatWidth → EncodedFloat
float_of bits float_width.Sixteen = Half bits
float_of bits float_width.ThirtyTwo = Single bits
float_of bits float_width.SixtyFour = Double bits
float_of bits float_width.Unknown = Double bits

-- The float is no integer from -2^63 to 2^64 - 1, and if it is a NaN it is f97e00 (dCBOR, numeric reduction).
abbrev pub IsReduced : EncodedFloat → Type 0
IsReduced f = (reduced f ≡ None) × (IsTrue (is_nan (number_of f)) → f ≡ Half 0x7e00)

-- The float is in the shortest width that has it (RFC 8949 sections 4.1 and 4.2.2).
abbrev pub KeepsFloat : Rules → EncodedFloat → Type 0
KeepsFloat rules f = (IsTrue rules.reduced_floats → IsReduced f) × (IsTrue rules.shortest_floats → IsPreferred f)

-- RFC 8949 section 3.3 reserves 24 to 31. False, true and null are 20, 21 and 22.
abbrev pub KeepsSimple : Rules → ℕ → Type 0
KeepsSimple rules n = ((n < 24) ⊎ (32 ≤ n)) × (IsTrue rules.other_simple ⊎ ((20 ≤ n) × (n ≤ 22)))

abbrev pub KeepsAtom : Rules → Atom → Type 0
KeepsAtom rules (integer n w) = KeepsNumber rules n w
KeepsAtom rules (negative n w) = KeepsNumber rules n w
KeepsAtom rules (string kind c) = KeepsChunk rules kind c
KeepsAtom rules (chunked_string kind cs) =
    (¬ (IsTrue rules.definite_lengths)) × AllByRecursion (KeepsChunk rules kind) cs
KeepsAtom rules (float bits w) = KeepsFloat rules (float_of bits w)
KeepsAtom rules (simple n) = KeepsSimple rules n

-- A big number has no zero byte in front, and its value is none that an integer can have: its content is longer than 8
-- bytes (RFC 8949 section 3.4.3).
abbrev pub IsBigContent : Item → Type 0
IsBigContent (atom (string Bytes c)) = (8 < length c.bytes) × (slice_index c.bytes 0 ≢ 0)
IsBigContent i = Unit {0}

-- the tag of an item
abbrev pub KeepsTag : Rules → ℕ → Item → Type 0
KeepsTag rules t i = IsTrue rules.big_numbers → (t ≡ 2) ⊎ (t ≡ 3) → IsBigContent i

-- Each key after the one given comes after the one before it, by their encodings (RFC 8949 sections 4.2.1 and 4.2.3).
-- No key comes after itself in an order.
abbrev pub KeysAfter : KeyOrder → List ℕ → Pairs → Type 0
KeysAfter order last no_pairs = Unit {0}
KeysAfter order last (pair k v ps) = (key_cmp order last (encoded k) ≡ Less) × KeysAfter order (encoded k) ps

abbrev pub KeysInOrder : KeyOrder → Pairs → Type 0
KeysInOrder order no_pairs = Unit {0}
KeysInOrder order (pair k v ps) = KeysAfter order (encoded k) ps

-- These bytes are no key.
abbrev pub IsNoKey : List ℕ → Pairs → Type 0
IsNoKey x no_pairs = Unit {0}
IsNoKey x (pair k v ps) = (x ≢ encoded k) × IsNoKey x ps

-- No key stands twice, by their encodings.
abbrev pub KeysDiffer : Pairs → Type 0
KeysDiffer no_pairs = Unit {0}
KeysDiffer (pair k v ps) = IsNoKey (encoded k) ps × KeysDiffer ps

-- an item at this level
abbrev mutual
  pub Keeps : Rules → ℕ → Item → Type 0
  Keeps rules level (atom a) = KeepsAtom rules a
  Keeps rules level (array is w) =
      (level ≤ rules.deepest) × KeepsCount rules (item_count is) w × KeepsItems rules (level + 1) is
  Keeps rules level (spec.map ps w) =
      (level ≤ rules.deepest) × KeepsCount rules (pair_count ps) w × KeepsPairs rules (level + 1) ps
      × KeysInOrder rules.key_order ps × (IsTrue rules.distinct_keys → KeysDiffer ps)
  Keeps rules level (tagged t w i) =
      IsTrue rules.tags × KeepsNumber rules t w × KeepsTag rules t i × Keeps rules (level + 1) i

  pub KeepsItems : Rules → ℕ → Items → Type 0
  KeepsItems rules level no_items = Unit {0}
  KeepsItems rules level (item i is) = Keeps rules level i × KeepsItems rules level is

  pub KeepsPairs : Rules → ℕ → Pairs → Type 0
  KeepsPairs rules level no_pairs = Unit {0}
  KeepsPairs rules level (pair k v ps) = Keeps rules level k × Keeps rules level v × KeepsPairs rules level ps

-- the rules whose check takes no memory
abbrev pub without_memory : Rules → Rules
without_memory rules = record {
  shortest_heads = rules.shortest_heads;
  shortest_floats = rules.shortest_floats;
  reduced_floats = rules.reduced_floats;
  other_simple = rules.other_simple;
  definite_lengths = rules.definite_lengths;
  big_numbers = rules.big_numbers;
  nfc = false;
  key_order = rules.key_order;
  distinct_keys = false;
  tags = rules.tags;
  deepest = rules.deepest;
}

-- The bytes are items one after the other that keep the rules. No simple value below 24 takes two bytes.
abbrev pub KeepsRules : Rules → List ℕ → Type 0
KeepsRules rules b = (is : Items) × SpellsItems strict 1 b is [] × KeepsItems rules 1 is
