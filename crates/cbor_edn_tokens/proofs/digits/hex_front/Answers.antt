-- Digits that decode in place are decoded as they would be where they are gathered.
use Rattle.std.proofs.Common.{sym}
use Rattle.cbor_edn_tokens.proofs.PlainHex.{in_place}
use Rattle.cbor_edn_tokens.proofs.digits.hex_front.Goals as goal

pub returns-in-Some : goal.returns-in-Some
returns-in-Some c =
    in_place _ c.in-Some.bytes.items (sym (rw c.in-Some.is at c.in_ok-bytes.ensures.gives))
