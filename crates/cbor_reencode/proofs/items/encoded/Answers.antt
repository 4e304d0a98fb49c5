-- Bytes that keep the rules are an encoding again of themselves, and what was written is one if it keeps them.
use Rattle.std.proofs.Common.{◌≡◌, ℕ, List, Some, None, sym, subst, ◌∙◌}
use Rattle.cbor_rules.specs.Keeps.{KeepsRules}
use Rattle.cbor_reencode.specs.Reencoded.{IsReencoded}
use Rattle.cbor_reencode.proofs.Kept.{none_lasts, reencoded_itself, sequence_reencoded}
use Rattle.cbor_reencode.proofs.items.encoded.Goals as goal

pub returns-in_default-clause-is : goal.returns-in_default-clause-is
returns-in_default-clause-is c =
    subst (λ (x : List ℕ). IsReencoded c.args.rules c.args.bytes.now x) (sym c.in_ok-from_slice.ensures.items)
    (reencoded_itself c.args.rules c.args.bytes.now (c.in_ok-violation_in.ensures.none.0 c.in_default.is))

pub returns-in_default-clause-lasts : goal.returns-in_default-clause-lasts
returns-in_default-clause-lasts c = λ b some.
    let keeps = c.in_ok-violation_in.ensures.none.0 c.in_default.is in
    let none = none_lasts c.args.rules c.args.bytes.now keeps in
    let wrong : None ≡ Some b = sym none ∙ some in
    absurd cc

pub returns-clause-is : goal.returns-clause-is
returns-clause-is c =
    let keeps = subst (λ (x : List ℕ). KeepsRules c.args.rules x) c.deref.ensures.value c.in_ok-check_written.ensures in
    sequence_reencoded c.args.rules c.args.bytes.now c.in_ok-out.out.items c.in_ok-out.ensures keeps
