-- One level is what the definition says of it, and each loop comes to the answer for all.
use Rattle.std.proofs.Common.{◌≡◌, ◌≤◌, ◌+◌, ◌-◌, ◌%◌, ◌<◌, ◌==◌, int_le, false, refl, rules, tests, ℕ, Bool, true, Option, Some, IfOk, map, pos}
use Rattle.std.proofs.Common.{ap, sym, subst, ◌∙◌, arith}
use mir.Syntax.{w128}
use mir.Val.{SFits}
use Rattle.std.proofs.lemmas.Bool.Decides.{nat_tests}
use Rattle.std.proofs.lemmas.Int.{ints}
use Rattle.std.proofs.lemmas.List.{get_or_default}
use Rattle.cbor_fits.specs.Value.{integer}
use Rattle.cbor_fits.specs.View.{view}
use Rattle.cbor_fits.specs.Tables.{rules_of}
use Rattle.cbor_fits.specs.Rests.{rest_view, outcome_view, pair_view, pair_view_of}
use Rattle.cbor_fits.specs.Kept.{Holds}
use Rattle.cbor_fits.specs.Fits.{Outcome, matcher, has_size, any_from, size, size_count}
use Rattle.cbor_fits.proofs.Views.{view-Array, view-Map, view-Bytes, view-Unsigned}
use Rattle.cbor_fits.proofs.Levels.{fits_at, fits_alone, fits_after, fits_not_after, takes_at}
use Rattle.cbor_fits.proofs.Inside.{array_takes, map_takes, inside_fits, turn_on, bits_on, from_here, from_next}
use Rattle.cbor_fits.proofs.Sizes.{from_needed, from_within, from_no_type, from_bounds, from_all, sizes_at, from_next_type}
use Rattle.cbor_fits.proofs.tables.Tables.+fits.Goals as goal
use Rattle.cbor_fits.proofs.tables.Tables.+fits.Goals.{fits_set_bits-then-is_set+in_ok-fits_number+else-not-branch}
use Rattle.cbor_fits.proofs.tables.Tables.+fits.Goals.{fits_set_bits-else-is_set}

pub fits-returns-then-not-keeps-clause-right : goal.fits-returns-then-not-keeps-clause-right
fits-returns-then-not-keeps-clause-right t c =
    let h : 0 < c.args.depth = omega arith in
    let e = fits_at (rules_of c.args.self.now) c.args.depth c.args.index (view c.args.datum.now) h in
    subst (λ (a : Option Bool). IfOk c.fits_anew.result (λ b. a ≡ Some b)) (sym e) c.fits_anew.ensures.right

pub fits-returns-clause-right : goal.fits-returns-clause-right
fits-returns-clause-right t c =
    let h : 0 < c.args.depth = omega arith in
    fits_at (rules_of c.args.self.now) c.args.depth c.args.index (view c.args.datum.now) h ∙ c.in_ok-fits.ensures.right

pub fits-returns-clause-kept : goal.fits-returns-clause-kept
fits-returns-clause-kept t c =
    let r = rules_of c.args.self.now in
    let h : 0 < c.args.depth = omega arith in
    let right = fits_at r c.args.depth c.args.index (view c.args.datum.now) h ∙ c.in_ok-fits.ensures.right in
    c.in_ok-keep.ensures r c.in_ok-fits.ensures.kept right

pub fits_anew-returns-in-None-clause-right : goal.fits_anew-returns-in-None-clause-right
fits_anew-returns-in-None-clause-right t c =
    let r = rules_of c.args.self.now in
    let e = fits_alone r (matcher r c.args.inner) c.args.index (view c.args.datum.now) c.node.result c.target_of.result
    c.node.ensures c.target_of.ensures c.in-None.is in
    subst (λ (a : Option Bool). IfOk c.fits_itself.result (λ b. a ≡ Some b)) (sym e) c.fits_itself.ensures.right

pub fits_anew-returns-then-branch-clause-right : goal.fits_anew-returns-then-branch-clause-right
fits_anew-returns-then-branch-clause-right t c =
    let r = rules_of c.args.self.now in
    let e = fits_after r (matcher r c.args.inner) c.args.index (view c.args.datum.now) c.node.result c.target_of.result
    c.node.ensures c.target_of.ensures c.in-Some.target c.in-Some.is
    (c.in_ok-fits-in-Some.ensures.right ∙ ap (λ b. Some b) c.if-branch.true) in
    subst (λ (a : Option Bool). IfOk c.fits_itself-then-branch.result (λ b. a ≡ Some b)) (sym e)
    c.fits_itself-then-branch.ensures.right

pub fits_anew-returns-else-branch-clause-right : goal.fits_anew-returns-else-branch-clause-right
fits_anew-returns-else-branch-clause-right t c =
    let r = rules_of c.args.self.now in
    fits_not_after r (matcher r c.args.inner) c.args.index (view c.args.datum.now) c.node.result c.target_of.result
    c.node.ensures c.target_of.ensures c.in-Some.target c.in-Some.is
    (c.in_ok-fits-in-Some.ensures.right ∙ ap (λ b. Some b) c.if-branch.false)

pub fits_array-returns-clause-right : goal.fits_array-returns-clause-right
fits_array-returns-clause-right t c =
    let v = c.in-Array.members in
    array_takes ((matcher (rules_of c.args.self.now) c.args.inner).takes c.args.group) (view c.args.datum.now)
    (map view v.items) (map view c.deref.result.now) (outcome_view c.in_ok-outcome.outcome) c.is_whole.result
    (ap view c.in-Array.is ∙ view-Array v)
    (ap (map view) c.deref.ensures.value) c.in_ok-outcome.ensures.right c.is_whole.ensures

pub fits_map-returns-clause-right : goal.fits_map-returns-clause-right
fits_map-returns-clause-right t c =
    let v = c.in-Map.pairs in
    map_takes ((matcher (rules_of c.args.self.now) c.args.inner).takes c.args.group) (view c.args.datum.now)
    (map pair_view v.items) (map pair_view_of c.in_ok-all_pairs.field-0.items) (outcome_view c.in_ok-outcome.outcome)
    c.is_whole.result
    (ap view c.in-Map.is ∙ view-Map v) (c.in_ok-all_pairs.ensures ∙ ap (map pair_view) c.deref.ensures.value)
    c.in_ok-outcome.ensures.right c.is_whole.ensures

pub fits_inside-returns-in_ok-fits-in-Some-clause-right : goal.fits_inside-returns-in_ok-fits-in-Some-clause-right
fits_inside-returns-in_ok-fits-in-Some-clause-right t c =
    let v = c.in-Bytes.content in
    let r = rules_of c.args.self.now in
    inside_fits r.decoded ((matcher r c.args.inner).fits c.args.index) (view c.args.datum.now) v.items
    c.deref.result.now c.in_ok-item.field-0 c.in-Some.item (ap view c.in-Bytes.is ∙ view-Bytes v) c.deref.ensures.value
    c.in_ok-item.ensures c.in-Some.is ∙ c.in_ok-fits-in-Some.ensures.right

pub fits_sequence-returns-in_ok-fits-in-Some-clause-right : goal.fits_sequence-returns-in_ok-fits-in-Some-clause-right
fits_sequence-returns-in_ok-fits-in-Some-clause-right t c =
    let v = c.in-Bytes.content in
    let r = rules_of c.args.self.now in
    inside_fits r.decoded_sequence ((matcher r c.args.inner).fits c.args.index) (view c.args.datum.now) v.items
    c.deref.result.now c.in_ok-items.field-0 c.in-Some.items
    (ap view c.in-Bytes.is ∙ view-Bytes v) c.deref.ensures.value
    c.in_ok-items.ensures c.in-Some.is ∙ c.in_ok-fits-in-Some.ensures.right

pub finds_size_from-returns-then-branch-clause-right : goal.finds_size_from-returns-then-branch-clause-right
finds_size_from-returns-then-branch-clause-right t c =
    from_here _ (size_count - c.sizes.size) c.sizes.size _ c.sizes.invariant.right (omega arith)
    (c.in_ok-fits_number.ensures.right ∙ ap (λ b. Some b) c.if-branch.true)

pub finds_size_from-sizes-preserved : goal.finds_size_from-sizes-preserved
finds_size_from-sizes-preserved t c =
    let right = from_next _ (size_count - c.sizes.size) c.sizes.size _ _ _ c.sizes.invariant.right (omega arith)
    (c.in_ok-fits_number.ensures.right ∙ ap (λ b. Some b) c.if-branch.false) (omega arith) (omega arith) in
    record { right = right; kept = c.in_ok-fits_number.ensures.kept }

pub has_size_from-returns-in-Integers-clause-right : goal.has_size_from-returns-in-Integers-clause-right
has_size_from-returns-in-Integers-clause-right t c =
    let r = rules_of c.args.self.now in
    let h : 0 < c.args.depth = omega arith in
    let count = size_count - c.args.first in
    let e = sizes_at r c.args.depth c.args.sizes count c.args.first c.node.result _ h c.node.ensures c.in-Integers.is in
    let low : SFits w128 c.in-Integers.least = search rules in
    let high : SFits w128 c.in-Integers.most = search rules in
    let top : int_le (pos (c.args.first + count)) c.in-Integers.most ≡ false = grind (arith, ints, high) in
    e ∙ (from_within c.in-Integers.least c.in-Integers.most count c.args.first top
    ∙ ap (λ b. Some b)
    (from_bounds w128 c.in-Integers.least c.in-Integers.most c.args.first _ low high c.has_number_from.ensures))

pub has_size_from-returns-in-Major-clause-right : goal.has_size_from-returns-in-Major-clause-right
has_size_from-returns-in-Major-clause-right t c =
    let r = rules_of c.args.self.now in
    let h : 0 < c.args.depth = omega arith in
    let count = size_count - c.args.first in
    let some : 0 < count = omega arith in
    let e = sizes_at r c.args.depth c.args.sizes count c.args.first c.node.result _ h c.node.ensures c.in-Major.is in
    let turned : (0 == c.in-Major.major) ≡ (c.in-Major.major == 0) = grind (arith, nat_tests) in
    e ∙ (from_all (0 == c.in-Major.major) count c.args.first some ∙ ap (λ b. Some b) turned)

pub has_size_from-returns-in-Choice-clause-right : goal.has_size_from-returns-in-Choice-clause-right
has_size_from-returns-in-Choice-clause-right t c =
    let r = rules_of c.args.self.now in
    let h : 0 < c.args.depth = omega arith in
    let count = size_count - c.args.first in
    let e = sizes_at r c.args.depth c.args.sizes count c.args.first c.node.result _ h c.node.ensures c.in-Choice.is in
    subst (λ (a : Option Bool). IfOk c.one_has_size_from.result (λ b. a ≡ Some b)) (sym e)
    c.one_has_size_from.ensures.right

pub has_size_from-returns-in-Rule-clause-right : goal.has_size_from-returns-in-Rule-clause-right
has_size_from-returns-in-Rule-clause-right t c =
    let r = rules_of c.args.self.now in
    let h : 0 < c.args.depth = omega arith in
    let count = size_count - c.args.first in
    let e = sizes_at r c.args.depth c.args.sizes count c.args.first c.node.result _ h c.node.ensures c.in-Rule.is in
    let f = λ (n k : ℕ). (matcher r (c.args.depth - 1)).fits n (integer (pos k)) in
    let whole = e ∙ ap (λ n. any_from (f n) count c.args.first) (sym c.body.ensures) in
    subst (λ (a : Option Bool). IfOk c.has_size_from.result (λ b. a ≡ Some b)) (sym whole) c.has_size_from.ensures.right

pub one_has_size_from-types-preserved : goal.one_has_size_from-types-preserved
one_has_size_from-types-preserved t c =
    let f = λ (u k : ℕ). (matcher (rules_of c.args.self.now) c.args.inner).fits u (integer (pos k)) in
    let right = from_next_type f _ _ _ _ _ _ _ _ c.types.invariant.right c.types-test.true
    (sym (get_or_default _ _ _ _ c.types-test.true)) c.in_ok-found.ensures.right in
    record { right = right; kept = c.in_ok-found.ensures.kept }

pub one_has_size_from-returns-clause-right : goal.one_has_size_from-returns-clause-right
one_has_size_from-returns-clause-right t c =
    let f = λ (u k : ℕ). (matcher (rules_of c.args.self.now) c.args.inner).fits u (integer (pos k)) in
    from_no_type f _ _ _ _ _ _ c.types.invariant.right c.types-test.false

pub fits_size-returns-in-Unsigned-clause-right : goal.fits_size-returns-in-Unsigned-clause-right
fits_size-returns-in-Unsigned-clause-right t c =
    let f = λ (k : ℕ). (matcher (rules_of c.args.self.now) c.args.inner).fits c.args.sizes (integer (pos k)) in
    let few : c.bytes_needed.result ≤ size_count = omega (arith, c.bytes_needed.ensures.few) in
    let e = ap (has_size f) (ap view c.in-Unsigned.is ∙ view-Unsigned _)
    ∙ from_needed f _ c.bytes_needed.result size_count c.bytes_needed.ensures.needed few in
    subst (λ (a : Option Bool). IfOk c.has_size_from.result (λ b. a ≡ Some b)) (sym e) c.has_size_from.ensures.right

pub takes-returns-clause-right : goal.takes-returns-clause-right
takes-returns-clause-right t c =
    let h : 0 < c.args.depth = omega arith in
    let e = takes_at (rules_of c.args.self.now) c.args.depth c.args.index (rest_view c.args.rest.now) h in
    subst (λ (a : Option Outcome). IfOk c.takes_itself.result (λ o. a ≡ Some (outcome_view o))) (sym e)
    c.takes_itself.ensures.right

pub fits_set_bits-bits-preserved : goal.fits_set_bits-bits-preserved
fits_set_bits-bits-preserved t c =
    let f = λ (k : ℕ). (matcher (rules_of c.args.self.now) c.args.inner).fits c.args.bits (integer (pos k)) in
    let here : c.bits.number % 2 ≡ 1 → f (c.args.set.first + c.bits.bit) ≡ Some true =
    elim c.if-is_set.branch [
      | fits_set_bits-then-is_set+in_ok-fits_number+else-not-branch w ↦ λ e.
          let yes : w.in_ok-fits_number.field-0 ≡ true =
          first_of (assumption (w.if-not-branch.false), search rules, grind (arith, tests)) in
          w.in_ok-fits_number.ensures.right ∙ ap (λ b. Some b) yes
      | fits_set_bits-else-is_set w ↦ λ e. absurd (first_of (omega arith, grind (arith, nat_tests)))
    ] in
    let right = bits_on f (c.args.set.count - c.bits.bit) (c.args.set.first + c.bits.bit)
    c.bits.number _ c.bits.invariant.right (omega arith)
    here _ _ _ (omega arith) (omega arith) refl in
    let kept : Holds (rules_of c.args.self.now) c.if-is_set.work =
    elim c.if-is_set.branch [
      | fits_set_bits-then-is_set+in_ok-fits_number+else-not-branch w ↦
          subst (Holds (rules_of c.args.self.now)) (sym w.work-is) w.in_ok-fits_number.ensures.kept
      | fits_set_bits-else-is_set w ↦
          subst (Holds (rules_of c.args.self.now)) (sym w.work-is) c.bits.invariant.kept
    ] in
    record { right = right; kept = kept }

pub take_repeated-turns-preserved : goal.take_repeated-turns-preserved
take_repeated-turns-preserved t c =
    let f = (matcher (rules_of c.args.self.now) c.args.inner).takes c.args.index in
    let right = turn_on f (size (rest_view c.args.rest.now) + 1 - c.turns.turn) c.turns.least c.turns.most
    (rest_view c.turns.left)
    (rest_view c.in-Takes.next) _ c.turns.invariant.right (omega arith) (omega arith)
    (c.in_ok-next.ensures.right ∙ ap (λ o. Some (outcome_view o)) c.in-Takes.is)
    (λ e. c.if-len.false (c.len.ensures ∙ (e ∙ sym c.len-in-Takes.ensures))) _ _ _ (omega arith)
    c.saturating_sub-least.ensures refl in
    record { right = right; kept = c.in_ok-next.ensures.kept }
