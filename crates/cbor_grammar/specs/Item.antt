-- `Item`: a data item, as contracts speak of it, with the width of each number, length and count. It stands for a
-- `DataItem` of the code, and says nothing about memory.
use Rattle.std.specs.Prelude.{ℕ, suc, List, Option}
use Rattle.cbor_grammar.specs.declared.width.IntegerWidth.{IntegerWidth}
use Rattle.cbor_grammar.specs.declared.width.FloatWidth.{FloatWidth}
use Rattle.cbor_grammar.specs.declared.strings.StringKind.{StringKind}
use Rattle.std.specs.Prelude.{[], ◌∷◌}

-- a string of definite length, or a chunk of an indefinite one: its bytes, and the width of its length
pub record Chunk : Type 0 where
  pub bytes : List ℕ
  pub width : IntegerWidth

-- The items that hold no item (RFC 7049 sections 2.1 to 2.3). The number of a negative integer is the one that is
-- encoded. A string of indefinite length is its chunks.
pub data Atom : Type 0 where
  integer : ℕ → IntegerWidth → Atom
  negative : ℕ → IntegerWidth → Atom
  string : StringKind → Chunk → Atom
  chunked_string : StringKind → List Chunk → Atom
  float : ℕ → FloatWidth → Atom
  simple : ℕ → Atom

-- A container's width is that of its count, and none where its length is indefinite.
mutual
  pub data Item : Type 0 where
    atom : Atom → Item
    array : Items → Option IntegerWidth → Item
    map : Pairs → Option IntegerWidth → Item
    tagged : ℕ → IntegerWidth → Item → Item

  pub data Items : Type 0 where
    no_items : Items
    item : Item → Items → Items

  pub data Pairs : Type 0 where
    no_pairs : Pairs
    pair : Item → Item → Pairs → Pairs

abbrev pub item_count : Items → ℕ
item_count no_items = 0
item_count (item i is) = suc (item_count is)

abbrev pub pair_count : Pairs → ℕ
pair_count no_pairs = 0
pair_count (pair k v ps) = suc (pair_count ps)

-- keys and values in turn
abbrev pub parts : Pairs → Items
parts no_pairs = no_items
parts (pair k v ps) = item k (item v (parts ps))

abbrev pub items_of : List Item → Items
items_of [] = no_items
items_of (i ∷ is) = item i (items_of is)

abbrev pub pairs_of : List (Item × Item) → Pairs
pairs_of [] = no_pairs
pairs_of (p ∷ ps) = pair p.0 p.1 (pairs_of ps)
