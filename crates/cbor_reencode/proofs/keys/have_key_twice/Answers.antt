-- If two keys are the same in what was written, two keys are one.
use Rattle.std.proofs.Common.{ℕ, List, subst, true, false}
use Rattle.cbor_rules.specs.Keeps.{KeepsRules}
use Rattle.cbor_reencode.specs.mirror.Twice.{unordered}
use Rattle.cbor_reencode.proofs.Twice.{one_written}
use Rattle.cbor_reencode.proofs.keys.have_key_twice.Goals as goal

pub returns : goal.returns
returns c = λ on.
    let h = c.in_ok-twice.ensures on in
    one_written c.args.bytes.now c.in_ok-out.out.items c.in_ok-out.ensures
    (subst (λ (x : List ℕ). KeepsRules (unordered false) x) c.deref.ensures.value h.0)
    (subst (λ (x : List ℕ). ¬ (KeepsRules (unordered true) x)) c.deref.ensures.value h.1)
