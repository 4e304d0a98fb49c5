-- For `hex_float.rt`: if the digits, the exponent and the signs are those of a text, the number that is made of them is
-- what `hex_number` returns. Rounding the magnitude and then setting the sign gives what `rounded` returns. A word that
-- is a hexadecimal float is not empty.
use Rattle.std.proofs.Common.{◌≡◌, ℕ, ◌+◌, ◌-◌, ◌*◌, ◌^◌, ◌<◌, Bool, true, false, List, [], ◌∷◌, length, take, drop}
use Rattle.std.proofs.Common.{position, Some}
use Rattle.std.proofs.Math.Seq.{take-length}
use Rattle.std.proofs.lemmas.List.{length-drop}
use Rattle.std.proofs.Common.{refl, sym, ap, ap₂, ◌∙◌, arith, true≢false}
use lib.Ieee.{Format, neg, round}
use Rattle.fast_float.proofs.Patterns.{neg-round}
use Rattle.cbor_floats.specs.Decimal.{is_negative}
use Rattle.cbor_edn_grammar.specs.HexFloat.{Dyadic, rounded, with_exponent, hex_digits, exponent, hex_at}
use Rattle.cbor_edn_grammar.specs.HexFloat.{is_p, after_hex, hex_number, is_hex}
use Rattle.cbor_edn_grammar.specs.Reading.{◌>>=◌}
use Rattle.cbor_edn_tokens.specs.declared.hex_float.HexNumber.{HexNumber}
use Rattle.cbor_edn_tokens.specs.mirror.Front.{IsNumber}
use Rattle.cbor_edn_grammar.specs.Float.{is_hex_word}

-- ---- signs

-- the same power of 2 over the same
same_size : (f : Format) (negative : Bool) (x : HexNumber) (number : Dyadic) → IsNumber x number
    → x.negative ≡ negative
    → round f negative (number.digits * 2 ^ x.up) (2 ^ x.down) ≡ rounded f number
unfolding rounded
same_size f negative x number is sign =
    ap (λ s. round f s (number.digits * 2 ^ x.up) (2 ^ x.down)) (sym sign ∙ is.negative)
    ∙ ap₂ (λ up down. round f number.negative (number.digits * 2 ^ up) (2 ^ down)) is.up is.down

pub rounded_positive : (f : Format) (x : HexNumber) (number : Dyadic) → IsNumber x number → x.negative ≡ false
    → round f false (number.digits * 2 ^ x.up) (2 ^ x.down) ≡ rounded f number
rounded_positive f x number is sign = same_size f false x number is sign

pub rounded_negative : (f : Format) (x : HexNumber) (number : Dyadic) → IsNumber x number → x.negative ≡ true
    → neg (round f false (number.digits * 2 ^ x.up) (2 ^ x.down)) ≡ rounded f number
rounded_negative f x number is sign =
    neg-round f (number.digits * 2 ^ x.up) (2 ^ x.down) ∙ same_size f true x number is sign

-- ---- parts of a text

pub rest_is : (digits : List ℕ) (from : ℕ) → take (length digits - from) (drop from digits) ≡ drop from digits
rest_is digits from =
    ap (λ k. take k (drop from digits)) (sym (length-drop from digits)) ∙ take-length (drop from digits)

pub number_is : (text digits after : List ℕ) (end n places size : ℕ) (negative below : Bool)
    → after_hex text ≡ Some digits → position is_p digits ≡ Some end → after ≡ drop (end + 1) digits
    → hex_digits (take end digits) ≡ Some (n, places) → exponent after ≡ Some size
    → negative ≡ is_negative text → below ≡ is_negative after
    → hex_number text ≡ Some (with_exponent negative n places below size)
unfolding hex_number
number_is text digits after end n places size negative below start p_at rest found power sign below_is =
    ap (λ r. r >>= λ d. hex_at (is_negative text) d (position is_p d)) start
    ∙ ap (hex_at (is_negative text) digits) p_at
    ∙ ap (λ r. r >>= λ d. exponent (drop (end + 1) digits)
    >>= λ e. Some (with_exponent (is_negative text) d.0 d.1 (is_negative (drop (end + 1) digits)) e)) found
    ∙ ap (λ t. exponent t >>= λ e. Some (with_exponent (is_negative text) n places (is_negative t) e)) (sym rest)
    ∙ ap (λ r. r >>= λ e. Some (with_exponent (is_negative text) n places (is_negative after) e)) power
    ∙ ap₂ (λ x y. Some (with_exponent x n places y size)) (sym sign) (sym below_is)

-- ---- words

nothing_hex : is_hex_word [] ≡ false
unfolding is_hex
nothing_hex = refl

pub some_hex : (word : List ℕ) → is_hex_word word ≡ true → 0 < length word
some_hex [] holds = absurd (true≢false (sym holds ∙ nothing_hex))
some_hex (b ∷ word) holds = omega arith
