-- For `read_base16`, if there are no blanks between the hex digits: if the bytes before an apostrophe decode as hex
-- (`base16_of`), `read_decoded` returns what they decode to, and the text after the apostrophe.
use Rattle.std.proofs.Common.{◌≡◌, ℕ, ◌+◌, ◌<◌, true, List, [], ◌∷◌, ◌++◌, length, get_or, take, drop, IsTrue}
use Rattle.std.proofs.Common.{Ok, inl, inr, refl, sym, ap, ◌∙◌, arith, Some, ◌-◌}
use Rattle.std.specs.List.{list_all}
use Rattle.std.proofs.lemmas.Bool.{and_parts}
use Rattle.std.proofs.lemmas.Bool.Decides.{nat_tests}
use Rattle.std.proofs.lemmas.List.{take_rest, take-append-drop}
use Rattle.std.proofs.lemmas.List.Sums.{list_all-from_AllPass}
use Rattle.hex.specs.Hex.{is_hex_digit}
use Rattle.hex.proofs.HexLemmas.{decode_of-ok}
use Rattle.cbor_tokens.specs.Token.{nothing, is_digit, Spaced, blank, digit, DigitsBetween}
use Rattle.cbor_tokens.proofs.tokens.TextPlaces.{from_byte}
use Rattle.cbor_grammar.specs.Reading.{◌>>=◌}
use Rattle.cbor_tokens.proofs.texts.HexDecoded.{decoded}
use Rattle.cbor_tokens.specs.HexDigits.{base16_of}
use Rattle.cbor_notation.specs.mirror.NotationReading.{or_refused, read_decoded}
use Rattle.cbor_notation.proofs.notation.Tokens.{digits_found}

-- a hex digit is no blank, quote or slash
hex_digit : (d : ℕ) → is_hex_digit d ≡ true → IsTrue (is_digit true d)
hex_digit d is = grind (arith, nat_tests)

spaced : (ds : List ℕ) → list_all is_hex_digit ds ≡ true → Spaced true ds ds
spaced [] all = blank nothing
spaced (d ∷ ds) all =
    let parts = and_parts (is_hex_digit d) (list_all is_hex_digit ds) all in
    digit [] ds nothing (hex_digit d parts.0) (spaced ds parts.1) refl

between : (ds : List ℕ) → list_all is_hex_digit ds ≡ true → DigitsBetween true ds ds
between [] all = (spaced [] all, inl refl)
between (d ∷ ds) all = (spaced (d ∷ ds) all, inr (omega arith))

-- what decodes before a quote are the digits up to it
pub plain_digits : (text bytes : List ℕ) (end : ℕ) → end < length text → get_or text end 0 ≡ 39
    → base16_of (take end text) ≡ Some bytes
    → read_decoded true base16_of text ≡ Ok (bytes, take (length text - (end + 1)) (drop (end + 1) text))
plain_digits text bytes end within quote is =
    let ds = take end text in
    let rest = drop (end + 1) text in
    let parts : text ≡ ds ++ 39 ∷ rest = sym (take-append-drop end text)
    ∙ ap (λ (t : List ℕ). ds ++ t) (from_byte text end 39 within quote) in
    let all = list_all-from_AllPass is_hex_digit ds (decode_of-ok ds bytes (decoded ds bytes is)).1 in
    let found = digits_found true text ds ds rest parts (between ds all) in
    ap (λ r. or_refused r >>= λ x. or_refused (base16_of x.0) >>= λ bytes. Ok (bytes, x.1)) found
    ∙ ap (λ r. or_refused r >>= λ bytes. Ok (bytes, rest)) is
    ∙ ap (λ rest. Ok (bytes, rest)) (sym (take_rest text (end + 1)))
