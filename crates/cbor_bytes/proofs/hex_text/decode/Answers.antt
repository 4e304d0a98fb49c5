-- Digits are refused because their number is odd, or because one of them is no digit.
use Rattle.std.proofs.Common.{◌≡◌, ◌%◌, length, None, inr, refl, arith}
use Rattle.std.proofs.lemmas.Grind.{common_steps}
use Rattle.cbor_tokens.specs.HexDigits.{base16_of}
use Rattle.cbor_tokens.proofs.texts.HexDecoded.{not_digits}
use Rattle.cbor_bytes.proofs.hex_text.decode.Goals as goal

pub returns-clause-refused : goal.returns-clause-refused
returns-clause-refused c =
    let none : base16_of c.args.digits.items ≡ None = grind (arith, common_steps) in
    let even : length c.args.digits.items % 2 ≡ 0 = grind (arith, common_steps) in
    inr (inr (refl, even, not_digits c.args.digits.items none even))
