use Rattle.std.proofs.Common.{◌≡◌, [], ◌∷◌, length, arith}
use Rattle.std.proofs.lemmas.Grind.{common_steps}
use Rattle.hex.specs.Hex.{encode_lower, lower_digits}
use Rattle.hex.proofs.HexLemmas.{length-encode_with}
use Rattle.cbor_notes.proofs.text.put_escaped_byte.Goals as goal

pub returns-in_default-clause-len : goal.returns-in_default-clause-len
returns-in_default-clause-len c =
    let two : length (encode_lower (c.args.byte ∷ [])) ≡ 2 = length-encode_with lower_digits (c.args.byte ∷ []) in
    grind (arith, common_steps)
