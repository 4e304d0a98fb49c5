use Rattle.std.proofs.Common.{◌≡◌, arith}
use Rattle.std.proofs.lemmas.Str.{IsUtf8-from_ascii}
use Rattle.std.proofs.lemmas.Grind.{common_steps}
use Rattle.hex.specs.Hex.{encode_lower}
use Rattle.cbor_tokens.proofs.texts.HexLemmas.{IsAscii-encode_lower}
use Rattle.cbor_tokens.proofs.hex_digits.push_hex_piece.Goals as goal

pub from_utf8_unchecked-requires : goal.from_utf8_unchecked-requires
from_utf8_unchecked-requires c =
    let digits = encode_lower c.args.piece.now in
    let written : c.write_hex.new.digits ≡ digits = grind (arith, common_steps) in
    rw written (IsUtf8-from_ascii digits (IsAscii-encode_lower c.args.piece.now))
