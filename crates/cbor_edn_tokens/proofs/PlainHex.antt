-- For `hex_front`: hex digits that decode in place (`base16_of`), without blanks between them, give the same bytes as
-- if they are gathered first (`digits_of`).
use Rattle.std.proofs.Common.{◌≡◌, ℕ, List, [], ◌∷◌, Some, true, ap, ◌∙◌, arith}
use Rattle.std.specs.List.{AllByRecursion, list_all}
use Rattle.std.proofs.lemmas.Bool.{and_parts}
use Rattle.std.proofs.lemmas.Bool.Decides.{nat_tests}
use Rattle.std.proofs.lemmas.List.Sums.{list_all-from_AllPass}
use Rattle.hex.specs.Hex.{is_hex_digit}
use Rattle.hex.proofs.HexLemmas.{decode_of-ok}
use Rattle.cbor_tokens.specs.HexDigits.{base16_of}
use Rattle.cbor_tokens.proofs.texts.HexDecoded as hex_decoded
use Rattle.cbor_edn_grammar.specs.declared.opening.Base.TheVariants.{Hex}
use Rattle.cbor_edn_grammar.specs.Reading.{◌>>=◌}
use Rattle.cbor_edn_grammar.specs.Digits.{digits_of, decoded}
use Rattle.cbor_edn_grammar.proofs.Hex.{IsDigit, all_found}

digit_is : (d : ℕ) → is_hex_digit d ≡ true → IsDigit d
digit_is d is = record {
  white = grind (arith, nat_tests, is);
  sharp = grind (arith, nat_tests, is);
  slash = grind (arith, nat_tests, is);
  quote = grind (arith, nat_tests, is);
}

digits_are : (ds : List ℕ) → list_all is_hex_digit ds ≡ true → AllByRecursion IsDigit ds
digits_are [] all = tt
digits_are (d ∷ ds) all =
    let parts = and_parts (is_hex_digit d) (list_all is_hex_digit ds) all in
    (digit_is d parts.0, digits_are ds parts.1)

-- digits that decode in place give the same bytes when they are gathered
pub in_place : (digits bytes : List ℕ) → base16_of digits ≡ Some bytes
    → (digits_of true digits >>= decoded Hex) ≡ Some bytes
in_place digits bytes is =
    let all = list_all-from_AllPass is_hex_digit digits
    (decode_of-ok digits bytes (hex_decoded.decoded digits bytes is)).1 in
    ap (λ found. found >>= decoded Hex) (all_found digits (digits_are digits all)) ∙ is
