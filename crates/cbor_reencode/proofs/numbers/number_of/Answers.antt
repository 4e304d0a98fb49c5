-- A front of the digits that has more than 64 bits makes the number larger.
use Rattle.std.proofs.Common.{◌<◌, length, drop, length-drop, arith}
use Rattle.cbor_reencode.proofs.BigNumbers.{grows_more}
use Rattle.cbor_reencode.proofs.numbers.number_of.Goals as goal

pub returns-in_err-checked_mul : goal.returns-in_err-checked_mul
returns-in_err-checked_mul c =
    let left = drop c.loop-digit.digit-index c.args.digits.now in
    let some : 0 < length left =
    omega (arith, length-drop c.loop-digit.digit-index c.args.digits.now, c.loop-digit-test.true) in
    let more = grows_more c.loop-digit.number left some in
    rw c.from_residual.ensures (omega (arith, more, c.loop-digit.invariant, c.in_err-checked_mul.ensures))
