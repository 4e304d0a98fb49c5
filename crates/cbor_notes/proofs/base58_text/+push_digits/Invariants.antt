use Rattle.cbor_notes.proofs.base58_text.+push_digits.Given as goal

abbrev pub decreases-push_digits : goal.decreases-push_digits
decreases-push_digits l = l.number
