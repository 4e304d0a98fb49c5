-- The texts are those of the names, in another order.
use Rattle.std.proofs.Common.{◌≡◌, ◌+◌, [], length, take, sym, subst, ap, ◌∙◌, arith}
use Rattle.std.proofs.Math.Seq.{take-length}
use Rattle.json.specs.Strict.{AreDistinct}
use Rattle.json.proofs.Unique.Keys.{AreDistinct-permutation_back}
use Rattle.cbor_json.proofs.walking.Ordered.{at_place, as_many, texts_of, one_more_text, pushed_one}
use Rattle.cbor_json.proofs.names.are_distinct_sorted.Goals as goal

pub names-preserved : goal.names-preserved
names-preserved c = λ ns at.
    let text = c.args.text.now in
    let names = c.args.names.now in
    let k = c.names.index in
    let there = at_place text names ns k _ [] at c.names-test.true in
    let is = sym there.0 ∙ sym c.in-Some.ensures.lookup.0.2 in
    let many = as_many text names ns at in
    let added = pushed_one c.push.result _ _ _ (sym c.is_err.ensures.value ∙ c.if-is_err.false) c.push.ensures.items in
    subst (λ x. texts_of x ≡ take (k + 1) ns) (sym added)
    (one_more_text c.names.texts.items c.in-Some.this ns k (c.names.invariant ns at)
    (omega (arith, c.names-test.true, many)) is)

pub returns : goal.returns
returns c = λ asked ns at.
    let many = as_many c.args.text.now c.args.names.now ns at in
    let all : length ns ≡ c.names.index = omega (arith, many, c.names-test.false) in
    let back = AreDistinct-permutation_back c.names.texts.items _ c.sort_unstable.ensures.permutation
    (subst (λ x. AreDistinct (texts_of x)) c.deref.ensures.value (c.neighbours_differ.ensures asked)) in
    subst AreDistinct (c.names.invariant ns at ∙ ap (λ n. take n ns) (sym all) ∙ take-length ns) back
