-- The digits of base 32 are decoded, or refused, as the definition does.
use Rattle.cbor_tokens.specs.Base32.{standard}
use Rattle.cbor_notation.proofs.notation.DigitsFound.{base32_answer}
use Rattle.cbor_notation.proofs.content.base32.Goals as goal

pub returns : goal.returns
returns c = rw c.ok_or.ensures.value (base32_answer standard c.args.digits.now c.in_ok-found.found
    c.in_ok-found.ensures.found c.in_ok-found.ensures.none)
