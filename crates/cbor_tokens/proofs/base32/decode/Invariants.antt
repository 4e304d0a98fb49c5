use Rattle.cbor_tokens.proofs.bases.Base32Encode.{IsDecoded}
use Rattle.cbor_tokens.specs.Views.{alphabet_view}
use Rattle.cbor_tokens.proofs.base32.decode.Given as goal

abbrev pub invariant-loop-i : goal.invariant-loop-i
invariant-loop-i l = IsDecoded (alphabet_view l.alphabet) l.digits l.bytes.items l.i
