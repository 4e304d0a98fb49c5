-- No byte before the place that is found is 0xf8, or none is.
use Rattle.std.proofs.Common.{drop, sym, subst, ◌∙◌, ap}
use Rattle.std.proofs.lemmas.List.{drop-drop}
use Rattle.cbor_inspect.specs.Rfc8949.{NoPair}
use Rattle.cbor_inspect.proofs.Rfc8949Lemmas.{no_f8, before_f8}
use Rattle.cbor_inspect.proofs.rfc8949.next_f8.Goals as goal

pub returns-in-Some-clause-none : goal.returns-in-Some-clause-none
returns-in-Some-clause-none c = λ later.
    let back = c.split_at.ensures.back in
    let same = ap (drop c.in-Some.next) back ∙ drop-drop c.in-Some.next c.args.at c.args.bytes.now in
    subst NoPair back (before_f8 _ _ c.in-Some.ensures (subst NoPair (sym same) later))

pub returns-in-None-clause-none : goal.returns-in-None-clause-none
returns-in-None-clause-none c = λ end. subst NoPair c.split_at.ensures.back (no_f8 _ c.in-None.ensures)
