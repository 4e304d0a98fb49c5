-- No two of the names are equal.
use Rattle.std.proofs.Common.{◌+◌, ℕ, List, Bor, [], ◌∙◌, sym, subst, arith}
use Rattle.cbor_json.proofs.walking.Ordered.{at_place, as_many, new_among, Known, known_after, known_new, distinct}
use Rattle.cbor_json.proofs.names.are_distinct.Goals as goal
use Rattle.cbor_json.proofs.names.are_distinct.Goals.{then-is_before, else-is_before+else-index-ge-FEW+else-not-is_new}

pub names-preserved : goal.names-preserved
names-preserved c =
    let text = c.args.text.now in
    let names = c.args.names.now in
    let k = c.names.index in
    λ ns at.
    let known = c.names.invariant ns at in
    let there = at_place text names ns k _ [] at c.names-test.true in
    let is = sym there.0 ∙ sym c.in-Some.ensures.lookup.0.2 in
    elim c.if-is_before.branch [
      | then-is_before w ↦ subst (λ (x : Bor (List ℕ)). Known ns (k + 1) x.now) (sym w.greatest-is)
          (known_after ns k c.names.greatest.now c.in-Some.this.now known is
          (sym c.is_before.ensures ∙ w.if-is_before.true))
      | else-is_before+else-index-ge-FEW+else-not-is_new w ↦
          subst (λ (x : Bor (List ℕ)). Known ns (k + 1) x.now) (sym w.greatest-is)
          (known_new ns k c.names.greatest.now c.in-Some.this.now known is
          (sym c.is_before.ensures ∙ w.if-is_before.false)
          (new_among text names ns k c.in-Some.this.now at (omega (arith, c.names-test.true))
          (w.is_new.ensures w.if-not-is_new.false)))
    ]

pub returns : goal.returns
returns c = λ yes ns at.
    let many = as_many c.args.text.now c.args.names.now ns at in
    distinct ns c.names.greatest.now (subst (λ n. Known ns n c.names.greatest.now)
    (omega (arith, many, c.names-test.false)) (c.names.invariant ns at))
