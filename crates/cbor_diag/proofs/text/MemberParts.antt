-- Writing a `DataItem`: the texts of the members of a container from index `i` on are the text of the member at `i`,
-- followed by the texts of the members from `i + 1` on. `items_rest` is for arrays, `pairs_rest` for maps.
use Rattle.std.proofs.Common.{◌≡◌, ℕ, ◌+◌, ◌<◌, List, ◌∷◌, ◌++◌, length, drop, get_or}
use Rattle.std.proofs.Common.{ap}
use Rattle.cbor_diag.specs.declared.syntax.DataItem.{DataItem}
use Rattle.cbor_grammar.specs.Item.{Item}
use Rattle.cbor_diag.specs.View.{view, items_view, pairs_view}
use Rattle.cbor_grammar.specs.NotationText.{item_texts, pair_texts}
use Rattle.cbor_notation_writer.proofs.text.Scalars.{drop_here}

pub items_rest : (write : Item → List ℕ) (vs : List DataItem) (i : ℕ) (v : DataItem) → i < length vs → v ≡ get_or vs i v
    → item_texts write (items_view (drop i vs)) ≡ write (view v) ∷ item_texts write (items_view (drop (i + 1) vs))
items_rest write vs i v here is = ap (λ ys. item_texts write (items_view ys)) (drop_here vs i v here is)

pub pairs_rest : (write : Item → List ℕ) (between : List ℕ) (vs : List (DataItem × DataItem)) (i : ℕ)
    (v : DataItem × DataItem) → i < length vs → v ≡ get_or vs i v
    → pair_texts write between (pairs_view (drop i vs)) ≡ (write (view v.0) ++ (between ++ write (view v.1)))
    ∷ pair_texts write between (pairs_view (drop (i + 1) vs))
pairs_rest write between vs i v here is = ap (λ ys. pair_texts write between (pairs_view ys)) (drop_here vs i v here is)
