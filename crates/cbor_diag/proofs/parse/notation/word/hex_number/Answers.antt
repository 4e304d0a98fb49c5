-- The digits are a number below 16 to the power of their count, so no step of it overflows.
use Rattle.std.proofs.Common.{arith}
use Rattle.cbor_notation.proofs.notation.Tokens.{numeral-hex_after, room_for_digit}
use Rattle.cbor_diag.proofs.parse.notation.word.hex_number.Goals as goal

pub digits-init : goal.digits-init
digits-init c = record {
  so_far = numeral-hex_after c.args.digits.now c.if-is_empty.ensures;
  small = omega arith;
}

pub overflow_mul-number : goal.overflow_mul-number
overflow_mul-number c = omega (
  arith,
  room_for_digit c.digits.number c.digits.byte-index c.digits.invariant.small
      (omega arith),
)

pub overflow_add-number : goal.overflow_add-number
overflow_add-number c = omega (
  arith,
  room_for_digit c.digits.number c.digits.byte-index c.digits.invariant.small
      (omega arith),
  c.in-Some.ensures.value,
)
