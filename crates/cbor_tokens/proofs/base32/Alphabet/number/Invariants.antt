use Rattle.std.proofs.Common.{take}
use Rattle.cbor_tokens.specs.Base32.{Writes}
use Rattle.cbor_tokens.specs.Views.{alphabet_view}
use Rattle.cbor_tokens.proofs.base32.Alphabet.number.Given as goal

-- the digits so far write the number so far
abbrev pub invariant-loop-digit : goal.invariant-loop-digit
invariant-loop-digit l = Writes (alphabet_view l.self) (take l.digit-index l.digits) l.number
