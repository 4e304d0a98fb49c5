-- For `Frame::put`, which adds a part to an open container: the view of the items of an array, or of the pairs of a
-- map, with one more at the end is the old view joined with the new member (`joined`, `joined_pairs`).
use Rattle.std.proofs.Common.{◌≡◌, List, [], ◌∷◌, ◌++◌, refl, ap}
use Rattle.cbor_diag.specs.declared.syntax.DataItem.{DataItem}
use Rattle.cbor_grammar.specs.Item.{no_items, item, no_pairs, pair}
use Rattle.cbor_diag.specs.View.{view, items_view, pairs_view}
use Rattle.cbor_grammar.specs.Reading.{joined, joined_pairs}

-- one item more at the end of those that were read
pub item_joins : (vs : List DataItem) (v : DataItem)
    → items_view (vs ++ v ∷ []) ≡ joined (items_view vs) (item (view v) no_items)
item_joins [] v = refl
item_joins (w ∷ vs) v = ap (item (view w)) (item_joins vs v)

pub pair_joins : (vs : List (DataItem × DataItem)) (v : DataItem × DataItem)
    → pairs_view (vs ++ v ∷ []) ≡ joined_pairs (pairs_view vs) (pair (view v.0) (view v.1) no_pairs)
pair_joins [] v = refl
pair_joins (w ∷ vs) v = ap (pair (view w.0) (view w.1)) (pair_joins vs v)
