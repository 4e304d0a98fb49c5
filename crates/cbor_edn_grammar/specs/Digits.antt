-- The bytes that digits between apostrophes encode in EDN, as in `h'..'`. The digits are in base 16, 32 or 64, and may
-- have blanks between them.
use Rattle.std.specs.Prelude.{ℕ, ◌+◌, ◌-◌, ◌%◌, List, [], ◌∷◌, ◌++◌, length, take, drop, position, map, replicate}
use Rattle.std.specs.Prelude.{Option, Some, Bool, true, false, ◌==◌, ◌||◌, if◌then◌else◌}
use Rattle.std.specs.List.{list_any}
use Rattle.cbor_tokens.specs.Base32.{standard, extended_hex}
use Rattle.cbor_tokens.specs.HexDigits.{base16_of}
use Rattle.cbor_notation.specs.mirror.NotationReading.{base32_of, base64_of}
use Rattle.cbor_edn_grammar.specs.declared.opening.Base.{Base}
use Rattle.cbor_edn_grammar.specs.declared.opening.Base.TheVariants.{Hex, Base64, Base32, Base32Hex}
use Rattle.cbor_edn_grammar.specs.Reading.{Read, ◌>>=◌, repeated}
use Rattle.cbor_edn_grammar.specs.Blank.{after_blank}

-- in base 64 a `/` is a digit, so `#` alone begins a comment
abbrev pub slashes_in : Base → Bool
slashes_in Base64 = false
slashes_in base = true

abbrev pub digit_here : List ℕ → List ℕ × Bool × List ℕ
digit_here [] = ([], false, [])
digit_here (b ∷ text) = (b ∷ [], true, text)

-- the next digit after a blank, or the end
abbrev pub digit_turn : Bool → List ℕ → Option (List ℕ × Bool × List ℕ)
digit_turn slashes text = Some (digit_here (after_blank slashes text))

-- the digits without the blanks before, between and after them
abbrev pub digits_of : Bool → List ℕ → Option (List ℕ)
digits_of slashes text = repeated (digit_turn slashes) text >>= λ x. Some x.0

abbrev pub is_padded : List ℕ → Bool
is_padded digits = list_any (λ d. d == 61) digits

-- digits of base 32 with the padding that may be left out
abbrev pub padded : List ℕ → List ℕ
padded digits = if is_padded digits then digits else digits ++ replicate ((8 - length digits % 8) % 8) 61

-- the digits 62 and 63 of one alphabet of base 64, written as those of the other
abbrev pub to_standard : ℕ → ℕ
to_standard d = if d == 45 then 43 else if d == 95 then 47 else d

abbrev pub to_url_safe : ℕ → ℕ
to_url_safe d = if d == 43 then 45 else if d == 47 then 95 else d

abbrev pub has_standard : List ℕ → Bool
has_standard digits = list_any (λ d. (d == 43) || (d == 47)) digits

abbrev pub has_url_safe : List ℕ → Bool
has_url_safe digits = list_any (λ d. (d == 45) || (d == 95)) digits

-- Digits of base 64 in the form that either alphabet has by RFC 4648: padded ones in the standard alphabet, others in
-- the URL-safe one. Digits of both alphabets at once stay as they are, and encode no bytes.
abbrev pub one_alphabet : List ℕ → List ℕ
one_alphabet digits =
    if is_padded digits then (if has_standard digits then digits else map to_standard digits)
    else (if has_url_safe digits then digits else map to_url_safe digits)

-- the bytes that digits encode
abbrev pub decoded : Base → List ℕ → Option (List ℕ)
decoded Hex digits = base16_of digits
decoded Base64 digits = base64_of (one_alphabet digits)
decoded Base32 digits = base32_of standard (padded digits)
decoded Base32Hex digits = base32_of extended_hex (padded digits)

-- the bytes that this many characters encode
abbrev pub decoded_front : Base → List ℕ → ℕ → Option (List ℕ)
decoded_front base text n = digits_of (slashes_in base) (take n text) >>= decoded base

-- the bytes of the digits up to the next apostrophe
abbrev pub read_digits : Base → List ℕ → Read (List ℕ)
read_digits base text =
    position (λ b. b == 39) text >>= λ n. decoded_front base text n >>= λ bytes. Some (bytes, drop (n + 1) text)
