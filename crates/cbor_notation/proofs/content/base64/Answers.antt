-- The digits of base 64 are decoded, or refused, as the definition does.
use Rattle.cbor_notation.proofs.notation.DigitsFound.{base64_answer}
use Rattle.cbor_notation.proofs.content.base64.Goals as goal

pub returns : goal.returns
returns c = rw c.ok_or.ensures.value (base64_answer c.args.digits.now c.in_ok-found.found
    c.in_ok-found.ensures.found c.in_ok-found.ensures.none)
