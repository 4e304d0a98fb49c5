-- What is tested and returned of a number past 2 ^ 64 is the same as of the number itself.
use Rattle.std.proofs.Common.{◌<◌, sym, subst, ◌∙◌, arith}
use Rattle.std.proofs.lemmas.Result.{err_from_is_err_and}
use Rattle.cbor_edn_grammar.specs.Reading.{Refuses}
use Rattle.cbor_edn_grammar.proofs.Numbers.{negated_some, negated_zero, negated_refused}
use Rattle.cbor_edn_tokens.proofs.number.negated.Goals as goal

pub returns-in_err-number-clause-gives : goal.returns-in_err-number-clause-gives
returns-in_err-number-clause-gives c =
    let p = err_from_is_err_and c.from_residual.result c.from_residual.ensures.1 in
    rw (p.1, p.2) (negated_refused c.in_err-number.field-0.0 c.args.word.now c.in_err-number.ensures.gives)

pub returns-then-number-eq0-clause-gives : goal.returns-then-number-eq0-clause-gives
returns-then-number-eq0-clause-gives c =
    negated_zero c.args.word.now _ _ c.in_ok-number.ensures.gives c.if-number-eq0.true

pub returns-in_err-fitting-clause-gives : goal.returns-in_err-fitting-clause-gives
returns-in_err-fitting-clause-gives c =
    let p = err_from_is_err_and c.from_residual-in_err-fitting.result c.from_residual-in_err-fitting.ensures.1 in
    let more : 0 < c.in_ok-number.number = omega arith in
    let is = negated_some c.args.word.now _ _ c.in_ok-number.ensures.gives more in
    rw (p.1, p.2) (subst (λ r. Refuses c.in_err-fitting.field-0.0 r) (sym is) c.in_err-fitting.ensures.gives)

pub returns-clause-gives : goal.returns-clause-gives
returns-clause-gives c =
    let more : 0 < c.in_ok-number.number = omega arith in
    negated_some c.args.word.now _ _ c.in_ok-number.ensures.gives more ∙ c.in_ok-fitting.ensures.gives
