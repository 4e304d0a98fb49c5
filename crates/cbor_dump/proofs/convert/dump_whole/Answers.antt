-- A dump is returned of one whole item alone; bytes that remain after it are an error.
use Rattle.std.proofs.Common.{length, refl, sym, ◌∙◌, arith}
use Rattle.std.proofs.lemmas.Bool.{eqb-true, eqb-false}
use Rattle.std.proofs.lemmas.Result.{err_from_is_err_and}
use Rattle.cbor_grammar.specs.Answer.{IsRefused}
use Rattle.cbor_grammar.proofs.bytes.Outcomes.{whole_found, more_found, whole_refusal, unless_memory}
use Rattle.cbor_dump.proofs.convert.dump_whole.Goals as goal

pub returns-in_err-text-clause-refused : goal.returns-in_err-text-clause-refused
returns-in_err-text-clause-refused c =
    let p = err_from_is_err_and c.from_residual.result c.from_residual.ensures.1 in
    let b = c.args.bytes.now in
    let e = c.in_err-text.field-0.0 in
    rw (p.1, p.2) (unless_memory (IsRefused 1 b) e
    (whole_refusal 1 128 b e refl (λ i. omega (arith, c.type_inv.bytes i)) c.in_err-text.ensures.refused))

pub returns-then-is_empty-clause-ok : goal.returns-then-is_empty-clause-ok
returns-then-is_empty-clause-ok c =
    let b = c.args.bytes.now in
    let p = c.in_ok-text.ensures.dumped in
    let none = eqb-true (length c.in_ok-text.rest.now) 0 (sym c.is_empty.ensures ∙ c.if-is_empty.true) in (
      p.0,
      whole_found 1 128 b p.0 c.in_ok-text.rest.now refl (λ i. omega (arith, c.type_inv.bytes i)) p.1 none,
      p.2,
    )

pub returns-else-is_empty-clause-refused : goal.returns-else-is_empty-clause-refused
returns-else-is_empty-clause-refused c =
    let p = c.in_ok-text.ensures.dumped in
    let some = eqb-false (length c.in_ok-text.rest.now) 0 (sym c.is_empty.ensures ∙ c.if-is_empty.false) in
    λ _. more_found 1 128 c.args.bytes.now p.0 c.in_ok-text.rest.now refl (λ i. omega (arith, c.type_inv.bytes i)) p.1
    (omega (arith, some))
