-- What became of one whole item alone.
use Rattle.std.proofs.Common.{length, refl, sym, ◌∙◌, arith}
use Rattle.std.proofs.lemmas.Bool.{eqb-true, eqb-false}
use Rattle.std.proofs.lemmas.Result.{err_from_is_err_and}
use Rattle.cbor_grammar.specs.Answer.{IsRefused}
use Rattle.cbor_grammar.proofs.bytes.Outcomes.{whole_found, more_found, whole_refusal, unless_memory}
use Rattle.cbor_json.proofs.judge.judge.Goals as goal

pub returns-in_err-judged-clause-refused : goal.returns-in_err-judged-clause-refused
returns-in_err-judged-clause-refused c =
    let p = err_from_is_err_and c.from_residual.result c.from_residual.ensures.1 in
    let b = c.args.bytes.now in
    let e = c.in_err-judged.field-0.0 in
    rw (p.1, p.2) (unless_memory (IsRefused 1 b) e
    (whole_refusal 1 128 b e refl (λ i. omega (arith, c.type_inv.bytes i)) c.in_err-judged.ensures.refused))

pub returns-then-is_empty-clause-judged : goal.returns-then-is_empty-clause-judged
returns-then-is_empty-clause-judged c =
    let b = c.args.bytes.now in
    let p = c.in_ok-judged.ensures.judged in
    let none = eqb-true (length c.in_ok-judged.rest.now) 0 (sym c.is_empty.ensures ∙ c.if-is_empty.true) in (
      p.0,
      whole_found 1 128 b p.0 c.in_ok-judged.rest.now refl (λ i. omega (arith, c.type_inv.bytes i)) p.1 none,
      p.2,
    )

pub returns-else-is_empty-clause-refused : goal.returns-else-is_empty-clause-refused
returns-else-is_empty-clause-refused c =
    let p = c.in_ok-judged.ensures.judged in
    let some = eqb-false (length c.in_ok-judged.rest.now) 0 (sym c.is_empty.ensures ∙ c.if-is_empty.false) in
    λ _. more_found 1 128 c.args.bytes.now p.0 c.in_ok-judged.rest.now refl (λ i. omega (arith, c.type_inv.bytes i)) p.1
    (omega (arith, some))
