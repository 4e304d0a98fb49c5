use Rattle.std.proofs.Common.{◌∙◌, refl}
use Rattle.cbor_notes.proofs.bases.Base58Digits.{base58_by_digits}
use Rattle.cbor_notes.proofs.base58_text.base58.Goals as goal

pub returns-clause-only : goal.returns-clause-only
returns-clause-only c = λ digits all some is. base58_by_digits c.args.bytes.now _ digits
    (c.in_ok-push_base58.ensures.text ∙ rw c.in_ok-text.ensures.bytes refl) all some is
