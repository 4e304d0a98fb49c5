-- The result for the error of `reencoded` is the result for the input.
use Rattle.std.proofs.Common.{rules, ◌≡◌, ℤ, w64, to_z, of_z, subst, sym}
use Rattle.cbor_diag_c.specs.Answers.{IfLength}
use Rattle.cbor_diag_c.specs.Reencodings.{IsToldWhyNot}
use Rattle.cbor_diag_c.proofs.Told.{why_answer}
use Rattle.cbor_diag_c.proofs.reencoding.why_not.Goals as goal

pub returns-clause-told : goal.returns-clause-told
returns-clause-told c =
    let rules_asked = c.args.rules in
    let input = c.args.input.now in
    let same : to_z w64 (of_z w64 c.told_why.result) ≡ c.told_why.result = search rules in
    subst (λ (z : ℤ). IfLength z (λ n. IsToldWhyNot rules_asked input n c.told_why.new.place c.told_why.new.detail))
    (sym same)
    (why_answer rules_asked input c.in-Err.error c.told_why.result c.told_why.new.place c.told_why.new.detail
    c.in-Err.ensures.lasts c.told_why.ensures.told)
