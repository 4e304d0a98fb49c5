-- None of the names is this one.
use Rattle.std.proofs.Common.{◌≢◌, [], get_or, below_more, ◌∙◌, sym, ap, arith, not, true≢false}
use Rattle.std.proofs.lemmas.List.{get_or_default}
use Rattle.std.proofs.lemmas.Slice.Eq.{bytes_eq-Decides}
use Rattle.cbor_json.proofs.walking.Ordered.{at_place, as_many}
use Rattle.cbor_json.proofs.names.is_new.Goals as goal

pub names-preserved : goal.names-preserved
names-preserved c =
    let text = c.args.text.now in
    let names = c.args.names.now in
    let k = c.names.index in
    λ ns at j lt.
    let there = at_place text names ns k _ [] at c.names-test.true in
    let here = c.in-Some.ensures.lookup.0.2 ∙ there.0 in
    let other = c.in-Some.other.now in
    let this = c.args.this.now in
    below_more (λ j. get_or ns j [] ≢ this) k (λ j below. c.names.invariant ns at j below)
    (λ e.
    let same = (bytes_eq-Decides other this).1 (here ∙ e) in
    true≢false (sym c.if-ne.true ∙ c.ne.ensures ∙ ap not same)) j lt

pub returns : goal.returns
returns c = λ yes ns at k d lt same.
    let many = as_many c.args.text.now c.args.names.now ns at in
    c.names.invariant ns at k (omega (arith, lt, many, c.names-test.false)) (get_or_default ns k [] d lt ∙ same)
