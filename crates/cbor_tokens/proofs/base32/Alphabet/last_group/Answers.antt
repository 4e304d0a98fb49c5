use Rattle.std.proofs.Common.{◌≡◌, ◌/◌, ◌-◌, ◌^◌, refl}
use Rattle.cbor_tokens.specs.Base32.{forty_bits}
use Rattle.cbor_tokens.proofs.bases.Base32Groups.{last_is_read, last_digits}
use Rattle.cbor_tokens.specs.Views.{alphabet_view}
use Rattle.cbor_tokens.proofs.base32.Alphabet.last_group.Goals as goal

pub returns-in_err-number-clause-only : goal.returns-in_err-number-clause-only
returns-in_err-number-clause-only c = λ group is digits_are.
    let count = c.unpadded_len-digit_count.ensures in
    let last = last_digits (alphabet_view c.args.self) group c.args.digits.now _ is c.requires digits_are count.count
    count.padding
    count.least in
    let never = c.in_err-number.ensures.only _ last.front in
    cc never

pub returns-then-number-bits-ne0-clause-only : goal.returns-then-number-bits-ne0-clause-only
returns-then-number-bits-ne0-clause-only c = λ group is digits_are.
    let count = c.unpadded_len-digit_count.ensures in
    let last = last_digits (alphabet_view c.args.self) group c.args.digits.now _ is c.requires digits_are count.count
    count.padding
    count.least in
    let some = c.in_ok-number.ensures.only _ last.front in
    let same : c.in_ok-number.number ≡ forty_bits group / 32 ^ (8 - c.unpadded_len-digit_count.result) = cc some in
    absurd (c.if-number-bits-ne0.true (rw same last.unused))

pub returns-clause-found : goal.returns-clause-found
returns-clause-found c =
    let count = c.unpadded_len-digit_count.ensures in
    last_is_read (alphabet_view c.args.self) c.args.digits.now c.in_ok-number.number _ count.count c.requires
    c.in_ok-number.ensures.found count.padding c.if-number-bits-ne0.false

pub returns-clause-only : goal.returns-clause-only
returns-clause-only c = λ group is digits_are.
    let count = c.unpadded_len-digit_count.ensures in
    let last = last_digits (alphabet_view c.args.self) group c.args.digits.now _ is c.requires digits_are count.count
    count.padding
    count.least in
    let some = c.in_ok-number.ensures.only _ last.front in
    let same : c.in_ok-number.number ≡ forty_bits group / 32 ^ (8 - c.unpadded_len-digit_count.result) = cc some in
    rw (same, last.bits, last.count) refl
