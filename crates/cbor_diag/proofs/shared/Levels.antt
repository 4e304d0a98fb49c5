-- An array or a map of a `DataItem` is well formed at a level up to 128 if its members are well formed at the level
-- after that and its count fits the width that it states (`FitsCount`).
use Rattle.std.proofs.Common.{◌≡◌, ℕ, ◌+◌, ◌-◌, ◌≤◌, Option, Vec, Global, sym, subst, arith}
use Rattle.cbor_grammar.specs.declared.width.IntegerWidth.{IntegerWidth}
use Rattle.cbor_grammar.specs.Item.{item_count, pair_count}
use Rattle.cbor_grammar.specs.WellFormed.{WellFormed, WellFormedItems, WellFormedPairs, FitsCount}
use Rattle.cbor_diag.specs.declared.syntax.DataItem.{DataItem, Array, Map}
use Rattle.cbor_diag.specs.View.{view, items_view, pairs_view}
use Rattle.cbor_diag.proofs.shared.Views.{view-Array, view-Map}

pub array_well : (inner : ℕ) (v : Vec DataItem Global) (w : Option IntegerWidth) → 1 ≤ inner → inner ≤ 129
    → FitsCount w (item_count (items_view v.items)) → WellFormedItems inner (items_view v.items)
    → WellFormed (inner - 1) (view (Array v w))
array_well inner v w low high fits held =
    let level : inner - 1 + 1 ≡ inner = omega arith in
    subst (λ i. WellFormed (inner - 1) i) (sym (view-Array v w)) (
      omega arith,
      fits,
      subst (λ l. WellFormedItems l (items_view v.items)) (sym level) held,
    )

pub map_well : (inner : ℕ) (v : Vec (DataItem × DataItem) Global) (w : Option IntegerWidth) → 1 ≤ inner → inner ≤ 129
    → FitsCount w (pair_count (pairs_view v.items)) → WellFormedPairs inner (pairs_view v.items)
    → WellFormed (inner - 1) (view (Map v w))
map_well inner v w low high fits held =
    let level : inner - 1 + 1 ≡ inner = omega arith in
    subst (λ i. WellFormed (inner - 1) i) (sym (view-Map v w)) (
      omega arith,
      fits,
      subst (λ l. WellFormedPairs l (pairs_view v.items)) (sym level) held,
    )
