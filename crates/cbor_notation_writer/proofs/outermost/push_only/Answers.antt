-- A text is written of one whole item alone, and after an error none of it is left.
use Rattle.std.proofs.Common.{length, refl, sym, ◌∙◌, arith}
use Rattle.std.proofs.lemmas.Bool.{eqb-true, eqb-false}
use Rattle.std.proofs.lemmas.Result.{err_from_is_err_and}
use Rattle.std.specs.String.{string_bytes}
use Rattle.cbor_notation_writer.specs.mirror.Straight.{text_in}
use Rattle.cbor_tokens.proofs.texts.Appending.{begins_still, begins_same, cut_back}
use Rattle.cbor_grammar.specs.Answer.{IsRefused}
use Rattle.cbor_grammar.proofs.bytes.Outcomes.{whole_found, more_found, whole_refusal, unless_memory}
use Rattle.cbor_notation_writer.proofs.outermost.push_only.Goals as goal

pub returns-in_err-rest-clause-refused : goal.returns-in_err-rest-clause-refused
returns-in_err-rest-clause-refused c =
    let p = err_from_is_err_and c.from_residual.result c.from_residual.ensures.1 in
    let b = c.args.bytes.now in
    let e = c.in_err-rest.field-0.0 in
    rw (p.1, p.2) (unless_memory (IsRefused 1 b) e
    (whole_refusal 1 128 b e refl (λ i. omega (arith, c.type_inv.bytes i)) c.in_err-rest.ensures.refused))

pub returns-then-is_empty-clause-ok : goal.returns-then-is_empty-clause-ok
returns-then-is_empty-clause-ok c =
    let b = c.args.bytes.now in
    let p = c.in_ok-rest.ensures.printed in
    let none = eqb-true (length c.in_ok-rest.rest.now) 0 (sym c.is_empty.ensures ∙ c.if-is_empty.true) in (
      p.0,
      whole_found 1 128 b p.0 c.in_ok-rest.rest.now refl (λ i. omega (arith, c.type_inv.bytes i)) p.1 none,
      p.2,
    )

pub truncate-requires : goal.truncate-requires
truncate-requires c =
    let old = string_bytes c.args.out.now in
    let p = c.in_ok-rest.ensures.printed in
    λ _. (cut_back c.args.out.now c.push_outermost_front.new.out c.len-start.result c.len-start.ensures
    (begins_still old old (text_in c.args.layout p.0) (string_bytes c.push_outermost_front.new.out)
    (begins_same old) p.2)).0

pub returns-clause-refused : goal.returns-clause-refused
returns-clause-refused c =
    let p = c.in_ok-rest.ensures.printed in
    let some = eqb-false (length c.in_ok-rest.rest.now) 0 (sym c.is_empty.ensures ∙ c.if-is_empty.false) in
    λ _. more_found 1 128 c.args.bytes.now p.0 c.in_ok-rest.rest.now refl (λ i. omega (arith, c.type_inv.bytes i)) p.1
    (omega (arith, some))
