-- Which items are the same but for their encoding (`IsSame`): widths, kinds of length and the order of pairs may
-- differ. `IsDeterministic`: rules that leave an encoding no choice but the widths of floats.
use Rattle.std.specs.Prelude.{◌≡◌, ◌≢◌, ℕ, Bool, true, false, List, [], IsTrue}
use Rattle.std.specs.List.{flat_map}
use Rattle.cbor_grammar.specs.declared.width.IntegerWidth.TheVariants as width
use Rattle.cbor_grammar.specs.declared.width.FloatWidth.TheVariants as float_width
use Rattle.cbor_grammar.specs.declared.width.FloatWidth.{FloatWidth}
use Rattle.cbor_grammar.specs.Item as spec
use Rattle.cbor_grammar.specs.Item.{Chunk, Atom, integer, negative, string, chunked_string, float, simple, Item, atom}
use Rattle.cbor_grammar.specs.Item.{array, tagged, Items, no_items, item, Pairs, no_pairs, pair}
use Rattle.cbor_grammar.specs.Bytes.{strict, SpellsItems}
use Rattle.cbor_grammar.specs.Reading.{joined_pairs}
use Rattle.cbor_floats.specs.Preferred.{widened}
use Rattle.cbor_rules.specs.declared.rules.Rules.{Rules}
use Rattle.cbor_rules.specs.declared.rules.KeyOrder.TheVariants.{Any}
use Rattle.cbor_rules.specs.Keeps.{float_of, KeepsItems}

-- a string without the width of its length
abbrev pub whole : List ℕ → Chunk
whole bytes = record { bytes = bytes; width = width.Unknown }

-- What an item that holds no item says, whatever the widths and the kind of length that it has. A float is its double
-- where its width may change, and else it is as it stands.
abbrev pub said_float : Bool → ℕ → FloatWidth → Atom
said_float true bits w = float (widened (float_of bits w)) float_width.SixtyFour
said_float false bits w = float bits w

abbrev pub said : Bool → Atom → Atom
said floats (integer n w) = integer n width.Unknown
said floats (negative n w) = negative n width.Unknown
said floats (string kind c) = string kind (whole c.bytes)
said floats (chunked_string kind cs) = string kind (whole (flat_map (λ c. c.bytes) cs))
said floats (float bits w) = said_float floats bits w
said floats (simple n) = simple n

-- The same item; floats may have other widths where this is so. Each pair of a map is one of the other map, in any
-- order.
abbrev mutual
  pub IsSame : Bool → Item → Item → Type 0
  IsSame floats (atom a) (atom b) = said floats a ≡ said floats b
  IsSame floats (array is w) (array js v) = SameItems floats is js
  IsSame floats (spec.map ps w) (spec.map qs v) = SamePairs floats ps qs
  IsSame floats (tagged t w i) (tagged u v j) = (t ≡ u) × IsSame floats i j
  IsSame floats i j = ⊥

  pub SameItems : Bool → Items → Items → Type 0
  SameItems floats no_items no_items = Unit {0}
  SameItems floats (item i is) (item j js) = IsSame floats i j × SameItems floats is js
  SameItems floats is js = ⊥

  pub SamePairs : Bool → Pairs → Pairs → Type 0
  SamePairs floats no_pairs qs = qs ≡ no_pairs
  SamePairs floats (pair k v ps) qs =
      (before after : Pairs) × (l w : Item) × (qs ≡ joined_pairs before (pair l w after))
      × IsSame floats k l × IsSame floats v w × SamePairs floats ps (joined_pairs before after)

-- the rules leave an encoding no choice but the width of floats
pub record IsDeterministic (rules : Rules) : Type 0 where
  pub heads : IsTrue rules.shortest_heads
  pub lengths : IsTrue rules.definite_lengths
  pub order : rules.key_order ≢ Any

-- the bytes are these items, one after the other, and keep the rules
pub record AreKept (rules : Rules) (b : List ℕ) (is : Items) : Type 0 where
  pub spells : SpellsItems strict 1 b is []
  pub keeps : KeepsItems rules 1 is
