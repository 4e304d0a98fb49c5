-- The number is one less than what is read, or there is none.
use Rattle.std.proofs.lemmas.Result.{err_from_is_err_and}
use Rattle.cbor_notation.proofs.notation.Capped.{negative_read, negative_fails}
use Rattle.cbor_notation.proofs.number.read_negative_number.Goals as goal

pub returns-in_err-with_width-clause-gives : goal.returns-in_err-with_width-clause-gives
returns-in_err-with_width-clause-gives c =
    let p = err_from_is_err_and c.from_residual-in_err-with_width.result c.from_residual-in_err-with_width.ensures.1 in
    let read = c.in_ok-number.ensures.gives in
    rw (p.1, p.2) (negative_fails c.args.text.now c.read_number.new.text read.0 c.in_ok-number.number
    c.in_ok-number.indicator read.1 read.2 c.if-number-eq0.false c.in_err-with_width.field-0.0
    c.in_err-with_width.ensures.gives)

pub returns-clause-gives : goal.returns-clause-gives
returns-clause-gives c =
    let read = c.in_ok-number.ensures.gives in
    negative_read c.args.text.now c.read_number.new.text read.0 c.in_ok-number.number c.in_ok-number.indicator read.1
    read.2 c.if-number-eq0.false _ c.in_ok-with_width.ensures.gives
