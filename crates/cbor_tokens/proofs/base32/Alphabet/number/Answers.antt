use Rattle.std.proofs.Common.{◌≡◌, ◌<◌, ◌≤◌, ◌^◌, ℕ, take, ap, Some, arith, lit<}
use Rattle.std.proofs.lemmas.List.{take_more, take_all, length-take-le}
use Rattle.std.proofs.Math.Nat.{pow-le-pow_right}
use Rattle.cbor_tokens.proofs.bases.Base32Numbers.{written-lt, written_at, same_written, writes_more}
use Rattle.cbor_tokens.specs.Views.{alphabet_view}
use Rattle.cbor_tokens.proofs.base32.Alphabet.number.Goals as goal

-- a number that fewer than eight digits write
small : (n k : ℕ) → n < 32 ^ k → k < 8 → n < 34359738368
small n k below fits =
    let seven : k ≤ 7 = omega arith in
    let wide : 32 ^ k ≤ 32 ^ 7 = pow-le-pow_right (lit< tt) seven in
    omega arith

pub overflow_mul-number : goal.overflow_mul-number
overflow_mul-number c =
    let i = c.loop-digit.digit-index in
    let below : c.loop-digit.number < 32 ^ i =
    rw (length-take-le i c.args.digits.now (omega arith)) at (written-lt (alphabet_view c.args.self) _ _
    c.loop-digit.invariant) in
    omega (arith, small c.loop-digit.number i below (omega arith))

pub overflow_add-number : goal.overflow_add-number
overflow_add-number c =
    let i = c.loop-digit.digit-index in
    let below : c.loop-digit.number < 32 ^ i =
    rw (length-take-le i c.args.digits.now (omega arith)) at (written-lt (alphabet_view c.args.self) _ _
    c.loop-digit.invariant) in
    omega (arith, small c.loop-digit.number i below (omega arith), c.in_ok-value.ensures.found.0)

-- a digit that has no value is in no numeral
pub returns-in_err-value-clause-only : goal.returns-in_err-value-clause-only
returns-in_err-value-clause-only c = λ number writes.
    let digit = written_at (alphabet_view c.args.self) c.args.digits.now number c.loop-digit.digit-index writes
    c.loop-digit-test.true in
    let some = c.in_err-value.ensures.only digit.0 digit.1 digit.2 in
    cc some

pub loop-digit-preserved : goal.loop-digit-preserved
loop-digit-preserved c =
    let found = c.in_ok-value.ensures.found in
    writes_more (alphabet_view c.args.self) _ _ c.loop-digit.number _ c.from.result c.loop-digit.invariant
    (rw c.from.ensures found.0) (rw c.from.ensures found.1)
    (take_more c.args.digits.now c.loop-digit.digit-index 0 c.loop-digit-test.true)

pub returns-clause-only : goal.returns-clause-only
returns-clause-only c = λ number writes.
    let all : take c.loop-digit.digit-index c.args.digits.now ≡ c.args.digits.now =
    take_all c.loop-digit.digit-index c.args.digits.now (omega arith) in
    ap Some (same_written (alphabet_view c.args.self) c.args.digits.now c.loop-digit.number number (rw all at
    c.loop-digit.invariant)
    writes)
