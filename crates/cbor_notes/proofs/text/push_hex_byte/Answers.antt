use Rattle.std.proofs.Common.{◌≡◌, ◌<◌, [], ◌∷◌, get_or, arith}
use Rattle.std.proofs.lemmas.Grind.{common_steps}
use Rattle.std.specs.Str.{IsAscii}
use Rattle.hex.specs.Hex.{encode_lower}
use Rattle.cbor_tokens.proofs.texts.HexLemmas.{IsAscii-encode_lower, encode_lower-byte}
use Rattle.cbor_notes.proofs.text.push_hex_byte.Goals as goal

pub returns : goal.returns
returns c =
    let digits = c.encode_to_slice.new.output in
    let written : digits ≡ encode_lower (c.args.byte ∷ []) = grind (arith, common_steps) in
    let ascii : IsAscii digits = rw written (IsAscii-encode_lower (c.args.byte ∷ [])) in
    let first : get_or digits 0 0 < 128 = ascii 0 in
    let second : get_or digits 1 0 < 128 = ascii 1 in
    let two = encode_lower-byte c.args.byte digits written in
    grind (arith, common_steps)
