-- Lists of different lengths are not equal.
use Rattle.std.proofs.Common.{◌≡◌, ◌≢◌, ◌↔◌, ℕ, false, IsTrue, sym, ap, ◌∙◌, arith}
use Rattle.std.proofs.lemmas.Bool.{false≢true}
use Rattle.cbor_diag.specs.View.{items_view, pairs_view}
use Rattle.cbor_grammar.specs.Item.{item_count, pair_count}
use Rattle.cbor_diag.proofs.shared.Views.{item_count_view, pair_count_view}
use Rattle.cbor_diag.proofs.syntax.+equal.Goals as goal

-- lists of different lengths are not equal
unequal : {X : Type 0} (a b : X) (n m : ℕ) (count : X → ℕ)
    → count a ≡ n → count b ≡ m → n ≢ m → IsTrue false ↔ (a ≡ b)
unequal a b n m count long short differ =
    (λ h. absurd (false≢true h), λ e. absurd (differ (sym long ∙ ap count e ∙ short)))

pub equal::members_equal-returns-then-len : goal.equal::members_equal-returns-then-len
equal::members_equal-returns-then-len t c =
    let a = c.args.a.now in
    let b = c.args.b.now in
    let long : item_count (items_view a.items) ≡ c.len.result = omega (arith, item_count_view a.items, a.ok.0) in
    let short : item_count (items_view b.items) ≡ c.len-2.result = omega (arith, item_count_view b.items, b.ok.0) in
    unequal _ _ c.len.result c.len-2.result item_count long short c.if-len.true

pub equal::pairs_equal-returns-then-len : goal.equal::pairs_equal-returns-then-len
equal::pairs_equal-returns-then-len t c =
    let a = c.args.a.now in
    let b = c.args.b.now in
    let long : pair_count (pairs_view a.items) ≡ c.len.result = omega (arith, pair_count_view a.items, a.ok.0) in
    let short : pair_count (pairs_view b.items) ≡ c.len-2.result = omega (arith, pair_count_view b.items, b.ok.0) in
    unequal _ _ c.len.result c.len-2.result pair_count long short c.if-len.true
