use Rattle.std.proofs.Common.{sym, ◌∙◌, ap, Some}
use Rattle.cbor_tokens.proofs.bases.Base32Numbers.{written-lt}
use Rattle.cbor_tokens.proofs.bases.Places.{same_digits}
use Rattle.cbor_tokens.proofs.bases.Base32Groups.{whole_digits, whole_encoded}
use Rattle.cbor_tokens.specs.Views.{alphabet_view}
use Rattle.cbor_tokens.proofs.base32.Alphabet.whole_group.Goals as goal

pub five_bytes-requires : goal.five_bytes-requires
five_bytes-requires c =
    rw c.requires at (written-lt (alphabet_view c.args.self) c.args.digits.now _ c.in_ok-number.ensures.found)

pub returns-in_err-number-clause-only : goal.returns-in_err-number-clause-only
returns-in_err-number-clause-only c = λ group bytes five is.
    let never = c.in_err-number.ensures.only _
    (whole_digits (alphabet_view c.args.self) group c.args.digits.now bytes five c.requires is) in
    cc never

pub returns-clause-found : goal.returns-clause-found
returns-clause-found c = (
  c.five_bytes.ensures.bytes,
  c.five_bytes.ensures.five,
  whole_encoded (alphabet_view c.args.self) c.five_bytes.result c.args.digits.now c.in_ok-number.field-0
      c.five_bytes.ensures.five
      c.requires
      c.in_ok-number.ensures.found c.five_bytes.ensures.number,
)

pub returns-clause-only : goal.returns-clause-only
returns-clause-only c = λ group bytes five is.
    let some = c.in_ok-number.ensures.only _
    (whole_digits (alphabet_view c.args.self) group c.args.digits.now bytes five c.requires is) in
    ap Some (same_digits 256 c.five_bytes.result group (c.five_bytes.ensures.five ∙ sym five) c.five_bytes.ensures.bytes
    bytes
    (c.five_bytes.ensures.number ∙ cc some))
