-- Items by RFC 8949 (`IsItem8949`): no simple value is from 24 to 31 (`NoneReserved`), and none below 24 takes two
-- bytes. Section 3.3 forbids these encodings (f8 00 to f8 1f), and RFC 7049 allows them.
use Rattle.std.specs.Prelude.{◌⊎◌, ℕ, ◌<◌, ◌≤◌, List}
use Rattle.cbor_grammar.specs.Item as spec
use Rattle.cbor_grammar.specs.Item.{Atom, integer, negative, string, chunked_string, float, simple, Item, atom, array}
use Rattle.cbor_grammar.specs.Item.{tagged, Items, no_items, item, Pairs, no_pairs, pair}
use Rattle.cbor_grammar.specs.Facts.{IsItem, IsStrictItem}

-- no simple value from 24 to 31, which has no encoding other than two bytes
abbrev pub NotReserved : Atom → Type 0
NotReserved (integer n w) = Unit {0}
NotReserved (negative n w) = Unit {0}
NotReserved (string kind c) = Unit {0}
NotReserved (chunked_string kind cs) = Unit {0}
NotReserved (float bits w) = Unit {0}
NotReserved (simple n) = (n < 24) ⊎ (32 ≤ n)

abbrev mutual
  -- there is none in the item
  pub NoneReserved : Item → Type 0
  NoneReserved (atom a) = NotReserved a
  NoneReserved (array is w) = NoneReservedItems is
  NoneReserved (spec.map ps w) = NoneReservedPairs ps
  NoneReserved (tagged t w i) = NoneReserved i

  pub NoneReservedItems : Items → Type 0
  NoneReservedItems no_items = Unit {0}
  NoneReservedItems (item i is) = NoneReserved i × NoneReservedItems is

  pub NoneReservedPairs : Pairs → Type 0
  NoneReservedPairs no_pairs = Unit {0}
  NoneReservedPairs (pair k v ps) = NoneReserved k × NoneReserved v × NoneReservedPairs ps

-- The bytes, all of them, are this item by RFC 8949: no simple value below 24 takes two bytes, and none is from 24
-- to 31.
abbrev pub IsItem8949 : List ℕ → Item → Type 0
IsItem8949 b i = IsItem b i × IsStrictItem b i × NoneReserved i
