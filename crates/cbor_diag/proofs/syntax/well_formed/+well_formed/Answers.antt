-- A container is well formed if and only if its count fits its width and its members are well formed.
use Rattle.std.proofs.Common.{◌≡◌, ◌↔◌, ℕ, ◌+◌, ◌≤◌, Bool, false, IsTrue, Option, sym, ap, subst, ◌∙◌, arith}
use Rattle.std.proofs.lemmas.Bool.{false≢true}
use Rattle.cbor_grammar.specs.declared.width.IntegerWidth.{IntegerWidth}
use Rattle.cbor_grammar.specs.Item.{Item, item_count, pair_count}
use Rattle.cbor_diag.specs.View.{view, items_view, pairs_view}
use Rattle.cbor_grammar.specs.WellFormed.{deepest, WellFormed, WellFormedItems, WellFormedPairs, FitsCount}
use Rattle.cbor_diag.proofs.shared.Views.{view-Array, view-Map, item_count_view, pair_count_view}
use Rattle.cbor_diag.proofs.syntax.well_formed.+well_formed.Goals as goal

-- what makes a container well formed: its level, its count, and what it holds
abbrev Parts : ℕ → Option IntegerWidth → ℕ → Type 0 → Type 0
Parts level w n Held = (level ≤ deepest) × FitsCount w n × Held

-- a container that is seen as this one, and its count
parts_of : (level n count : ℕ) (w : Option IntegerWidth) (Held : Type 0) (i j : Item) → i ≡ j → count ≡ n
    → WellFormed level j ↔ Parts level w count Held → WellFormed level i ↔ Parts level w n Held
parts_of level n count w Held i j seen counted parts = subst (λ k. WellFormed level i ↔ Parts level w k Held) counted
    (subst (λ x. WellFormed level x ↔ Parts level w count Held) (sym seen) parts)

-- the count fits: what it holds decides
then_held : (level n : ℕ) (w : Option IntegerWidth) (Held Whole : Type 0) (r : Bool) → Whole ↔ Parts level w n Held
    → level ≤ deepest → FitsCount w n → IsTrue r ↔ Held → IsTrue r ↔ Whole
then_held level n w Held Whole r parts high fits h = (λ t. parts.1 (high, fits, h.0 t), λ well. h.1 (parts.0 well).2)

-- the count does not fit
else_count : (level n : ℕ) (w : Option IntegerWidth) (Held Whole : Type 0) (r : Bool) → Whole ↔ Parts level w n Held
    → IsTrue r ↔ FitsCount w n → r ≡ false → IsTrue r ↔ Whole
else_count level n w Held Whole r parts h past = (λ t. absurd (false≢true (sym past ∙ t)), λ well. h.1 (parts.0 well).1)

pub well_formed_at_level-returns-then-count_fits : goal.well_formed_at_level-returns-then-count_fits
well_formed_at_level-returns-then-count_fits t c =
    let v = c.in-Array.content in
    let w = c.in-Array.bitwidth in
    let parts = parts_of c.args.level c.len.result (item_count (items_view v.items)) w
    (WellFormedItems (c.args.level + 1) (items_view v.items)) _ _ (ap view c.in-Array.is ∙ view-Array v w)
    (omega (arith, item_count_view v.items, v.ok.0)) (λ h. h, λ h. h) in
    then_held c.args.level c.len.result w _ _ _ parts (omega arith) (c.count_fits.ensures.0 c.if-count_fits.true)
    c.items_well_formed.ensures

pub well_formed_at_level-returns-else-count_fits : goal.well_formed_at_level-returns-else-count_fits
well_formed_at_level-returns-else-count_fits t c =
    let v = c.in-Array.content in
    let w = c.in-Array.bitwidth in
    let parts = parts_of c.args.level c.len.result (item_count (items_view v.items)) w
    (WellFormedItems (c.args.level + 1) (items_view v.items)) _ _ (ap view c.in-Array.is ∙ view-Array v w)
    (omega (arith, item_count_view v.items, v.ok.0)) (λ h. h, λ h. h) in
    else_count c.args.level c.len.result w _ _ _ parts c.count_fits.ensures c.if-count_fits.false

pub well_formed_at_level-returns-then-count_fits-2 : goal.well_formed_at_level-returns-then-count_fits-2
well_formed_at_level-returns-then-count_fits-2 t c =
    let v = c.in-Map.content in
    let w = c.in-Map.bitwidth in
    let parts = parts_of c.args.level c.len-in-Map.result (pair_count (pairs_view v.items)) w
    (WellFormedPairs (c.args.level + 1) (pairs_view v.items)) _ _ (ap view c.in-Map.is ∙ view-Map v w)
    (omega (arith, pair_count_view v.items, v.ok.0)) (λ h. h, λ h. h) in
    then_held c.args.level c.len-in-Map.result w _ _ _ parts (omega arith)
    (c.count_fits-in-Map.ensures.0 c.if-count_fits-2.true) c.pairs_well_formed.ensures

pub well_formed_at_level-returns-else-count_fits-2 : goal.well_formed_at_level-returns-else-count_fits-2
well_formed_at_level-returns-else-count_fits-2 t c =
    let v = c.in-Map.content in
    let w = c.in-Map.bitwidth in
    let parts = parts_of c.args.level c.len-in-Map.result (pair_count (pairs_view v.items)) w
    (WellFormedPairs (c.args.level + 1) (pairs_view v.items)) _ _ (ap view c.in-Map.is ∙ view-Map v w)
    (omega (arith, pair_count_view v.items, v.ok.0)) (λ h. h, λ h. h) in
    else_count c.args.level c.len-in-Map.result w _ _ _ parts c.count_fits-in-Map.ensures c.if-count_fits-2.false
