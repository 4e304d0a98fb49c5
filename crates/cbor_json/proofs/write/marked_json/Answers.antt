-- The text of each item that the bytes are, and each error that they have.
use Rattle.std.proofs.Common.{refl, subst, arith}
use Rattle.std.proofs.lemmas.Result.{err_from_is_err_and}
use Rattle.cbor_grammar.proofs.bytes.ExactlyOne.{one_outcome}
use Rattle.cbor_json.specs.Written.{Judges, Tells}
use Rattle.cbor_json.proofs.writing.Json.{judged_every, no_refusal, no_memory, this_refusal, no_json}
use Rattle.cbor_json.proofs.write.marked_json.Goals as goal

pub returns-in_err-text-clause-refused : goal.returns-in_err-text-clause-refused
returns-in_err-text-clause-refused c =
    let p = err_from_is_err_and c.from_residual.result c.from_residual.ensures.1 in
    rw (p.1, p.2) (no_json c.args.style c.args.bytes.now c.in_err-text.field-0.0 c.in_err-text.ensures.refused)

pub returns-in_err-text-clause-every_item : goal.returns-in_err-text-clause-every_item
returns-in_err-text-clause-every_item c =
    let p = err_from_is_err_and c.from_residual.result c.from_residual.ensures.1 in
    let b = c.args.bytes.now in
    let one = one_outcome 1 128 b refl (λ i. omega (arith, c.type_inv.bytes i)) in
    rw (p.1, p.2) (no_memory c.args.style b one c.in_err-text.field-0.0 c.in_err-text.ensures.refused)

pub returns-in_err-text-clause-every_refusal : goal.returns-in_err-text-clause-every_refusal
returns-in_err-text-clause-every_refusal c =
    let p = err_from_is_err_and c.from_residual.result c.from_residual.ensures.1 in
    let b = c.args.bytes.now in
    let one = one_outcome 1 128 b refl (λ i. omega (arith, c.type_inv.bytes i)) in
    rw (p.1, p.2) (this_refusal c.args.style b one c.in_err-text.field-0.0 c.in_err-text.ensures.refused)

pub returns-in-Text-clause-every_item : goal.returns-in-Text-clause-every_item
returns-in-Text-clause-every_item c =
    let b = c.args.bytes.now in
    let one = one_outcome 1 128 b refl (λ i. omega (arith, c.type_inv.bytes i)) in
    λ i s. subst (λ x. Judges c.args.style x i) c.in-Text.is
    (judged_every c.args.style b one c.in_ok-text.field-0 c.in_ok-text.ensures.judged i s)

pub returns-in-Text-clause-every_refusal : goal.returns-in-Text-clause-every_refusal
returns-in-Text-clause-every_refusal c =
    let b = c.args.bytes.now in
    let one = one_outcome 1 128 b refl (λ i. omega (arith, c.type_inv.bytes i)) in
    no_refusal c.args.style b one c.in_ok-text.field-0 c.in_ok-text.ensures.judged

pub returns-in-SameKeys-clause-every_item : goal.returns-in-SameKeys-clause-every_item
returns-in-SameKeys-clause-every_item c =
    let b = c.args.bytes.now in
    let one = one_outcome 1 128 b refl (λ i. omega (arith, c.type_inv.bytes i)) in
    λ i s. subst (λ x. Judges c.args.style x i) c.in-SameKeys.is
    (judged_every c.args.style b one c.in_ok-text.field-0 c.in_ok-text.ensures.judged i s)

pub returns-in-SameKeys-clause-every_refusal : goal.returns-in-SameKeys-clause-every_refusal
returns-in-SameKeys-clause-every_refusal c =
    let b = c.args.bytes.now in
    let one = one_outcome 1 128 b refl (λ i. omega (arith, c.type_inv.bytes i)) in
    no_refusal c.args.style b one c.in_ok-text.field-0 c.in_ok-text.ensures.judged

pub returns-in-NotKept-clause-refused : goal.returns-in-NotKept-clause-refused
returns-in-NotKept-clause-refused c =
    let b = c.args.bytes.now in
    let j = c.in_ok-text.ensures.judged in (
      subst (Tells b) c.in-NotKept.is c.in_ok-text.ensures.tells,
      j.0,
      j.1,
      subst (λ x. Judges c.args.style x j.0) c.in-NotKept.is j.2,
    )

pub returns-in-NotKept-clause-every_item : goal.returns-in-NotKept-clause-every_item
returns-in-NotKept-clause-every_item c =
    let b = c.args.bytes.now in
    let one = one_outcome 1 128 b refl (λ i. omega (arith, c.type_inv.bytes i)) in
    λ i s. subst (λ x. Judges c.args.style x i) c.in-NotKept.is
    (judged_every c.args.style b one c.in_ok-text.field-0 c.in_ok-text.ensures.judged i s)

pub returns-in-NotKept-clause-every_refusal : goal.returns-in-NotKept-clause-every_refusal
returns-in-NotKept-clause-every_refusal c =
    let b = c.args.bytes.now in
    let one = one_outcome 1 128 b refl (λ i. omega (arith, c.type_inv.bytes i)) in
    no_refusal c.args.style b one c.in_ok-text.field-0 c.in_ok-text.ensures.judged
