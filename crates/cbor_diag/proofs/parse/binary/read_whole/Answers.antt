use Rattle.std.proofs.Common.{arith}
use Rattle.std.proofs.lemmas.Result.{err_from_is_err_and}
use Rattle.cbor_grammar.specs.declared.error.Error.TheVariants as refusal
use Rattle.cbor_diag.specs.View.{view}
use Rattle.cbor_grammar.proofs.bytes.Outcomes.{whole_found, more_found, whole_refusal}
use Rattle.cbor_diag.proofs.bytes.PublicReaders.{whole_is, refusal_is}
use Rattle.cbor_diag.proofs.turns.FrontTurns.{first_ok, first_fails}
use Rattle.cbor_diag.proofs.parse.binary.read_whole.Goals as goal

pub returns-in_err-item-clause-answer : goal.returns-in_err-item-clause-answer
returns-in_err-item-clause-answer c =
    let p = err_from_is_err_and c.from_residual.result c.from_residual.ensures.1 in
    let b = c.args.bytes.now in
    let e = c.in_err-item.field-0.0 in
    rw (p.1, p.2) (refusal_is b (λ i. omega (arith, c.type_inv.bytes i)) e (whole_refusal 1 128 b e (omega arith)
    (λ i. omega (arith, c.type_inv.bytes i)) (first_fails _ _ b _ c.in_err-item.ensures.gives)))

pub returns-then-is_empty-clause-answer : goal.returns-then-is_empty-clause-answer
returns-then-is_empty-clause-answer c =
    let b = c.args.bytes.now in
    let i = c.in_ok-item in
    whole_is b (λ k. omega (arith, c.type_inv.bytes k)) i.item (whole_found 1 128 b (view i.item) i.rest.now
    (omega arith) (λ k. omega (arith, c.type_inv.bytes k)) (first_ok _ _ b _ _ i.ensures.gives)
    (grind (arith, c.is_empty.ensures, c.if-is_empty.true)))

pub returns-else-is_empty-clause-answer : goal.returns-else-is_empty-clause-answer
returns-else-is_empty-clause-answer c =
    let b = c.args.bytes.now in
    let i = c.in_ok-item in
    refusal_is b (λ k. omega (arith, c.type_inv.bytes k)) refusal.Remaining (more_found 1 128 b (view i.item) i.rest.now
    (omega arith) (λ k. omega (arith, c.type_inv.bytes k)) (first_ok _ _ b _ _ i.ensures.gives)
    (grind (arith, c.is_empty.ensures, c.if-is_empty.false)))
