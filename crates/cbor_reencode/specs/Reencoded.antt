-- Which bytes are a re-encoding of other bytes by rules (`IsReencoded`): they have the same items, and keep all of the
-- rules but `nfc` and `distinct_keys`. Also the rules that re-encoding cannot repair (`lasting`), and bytes in which no
-- two keys of a map are equal by value (`KeysOnce`).
use Rattle.std.specs.Prelude.{◌≢◌, ℕ, IsTrue, List, [], false}
use Rattle.cbor_grammar.specs.Item as spec
use Rattle.cbor_grammar.specs.Item.{Item, atom, array, tagged, Items, no_items, item, Pairs, no_pairs, pair}
use Rattle.cbor_grammar.specs.Bytes.{strict, SpellsItems}
use Rattle.cbor_rules.specs.declared.rules.Rules.{Rules}
use Rattle.cbor_rules.specs.declared.rules.TheConstants.Rules.{CORE}
use Rattle.cbor_rules.specs.declared.rules.KeyOrder.TheVariants.{Any}
use Rattle.cbor_rules.specs.Keeps.{without_memory}
use Rattle.cbor_rules.specs.Same.{AreKept}
use Rattle.cbor_reencode.specs.Reduction.{IsSameNumbered, SameNumbered}

-- The bytes `again` are items that keep the rules whose check takes no memory, and are those of the bytes `b` but for
-- widths, kinds of length, the order of pairs, and numbers that the rules want in another form. The widths of floats
-- are the same unless the rules ask for the shortest.
pub record IsReencoded (rules : Rules) (b again : List ℕ) : Type 0 where
  pub items : Items
  pub spells : SpellsItems strict 1 b items []
  pub written : Items
  pub kept : AreKept (without_memory rules) again written
  pub same : SameNumbered rules items written

-- The rules among these that no choice of widths, lengths, order and forms of numbers keeps: bytes that break them have
-- no encoding that keeps the rules and is of the same items.
abbrev pub lasting : Rules → Rules
lasting rules = record {
  shortest_heads = false;
  shortest_floats = false;
  reduced_floats = false;
  other_simple = rules.other_simple;
  definite_lengths = false;
  big_numbers = false;
  nfc = rules.nfc;
  key_order = Any;
  distinct_keys = rules.distinct_keys;
  tags = rules.tags;
  deepest = rules.deepest;
}

-- ---- keys that are one

-- Two keys are one: they are the same item but for widths, kinds of length, the order of pairs, and the forms of
-- numbers where core deterministic encoding leaves only one (RFC 8949 sections 4.2.1 and 5.6.1).
abbrev pub AreOne : Item → Item → Type 0
AreOne k l = IsSameNumbered CORE k l

-- This key is one with none of the keys of these pairs.
abbrev pub IsNoneOf : Item → Pairs → Type 0
IsNoneOf k no_pairs = Unit {0}
IsNoneOf k (pair l w ps) = (¬ (AreOne k l)) × IsNoneOf k ps

-- No two keys of these pairs are one.
abbrev pub KeysApart : Pairs → Type 0
KeysApart no_pairs = Unit {0}
KeysApart (pair k v ps) = IsNoneOf k ps × KeysApart ps

-- No two keys of a map in this item are one.
abbrev mutual
  pub MapsApart : Item → Type 0
  MapsApart (atom a) = Unit {0}
  MapsApart (array is w) = MapsApartItems is
  MapsApart (spec.map ps w) = KeysApart ps × MapsApartPairs ps
  MapsApart (tagged t w i) = MapsApart i

  pub MapsApartItems : Items → Type 0
  MapsApartItems no_items = Unit {0}
  MapsApartItems (item i is) = MapsApart i × MapsApartItems is

  pub MapsApartPairs : Pairs → Type 0
  MapsApartPairs no_pairs = Unit {0}
  MapsApartPairs (pair k v ps) = MapsApart k × MapsApart v × MapsApartPairs ps

-- The bytes are not a sequence of items in which two keys of a map are one.
abbrev pub KeysOnce : List ℕ → Type 0
KeysOnce b = (items : Items) → SpellsItems strict 1 b items [] → MapsApartItems items

-- These rules give keys that are one the same encoding, and their order of keys allows no two keys with that encoding.
pub record FixesKeys (rules : Rules) : Type 0 where
  pub heads : IsTrue rules.shortest_heads
  pub floats : IsTrue rules.shortest_floats
  pub lengths : IsTrue rules.definite_lengths
  pub big : IsTrue rules.big_numbers
  pub order : rules.key_order ≢ Any
