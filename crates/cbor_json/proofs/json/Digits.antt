-- The digits that JSON shows for bytes (hex, base64 and base64url) and the texts of integers up to 2 ^ 64, big numbers
-- and floats are `Calm`: printable ASCII without quotes and backslashes.
use Rattle.std.proofs.Common.{◌≡◌, ℕ, ◌/◌, ◌%◌, ◌^◌, ◌<◌, ◌≤◌, List, [], ◌∷◌, ◌++◌, length, Bool, true, false}
use Rattle.std.proofs.Common.{if◌then◌else◌, codes, refl, inl, inr, sym, ap, subst, ◌∙◌, arith, slice_index, replicate}
use Rattle.std.proofs.Common.{zero, suc, Option}
use Rattle.std.proofs.lemmas.Bool.{agree_below_at}
use Rattle.std.proofs.lemmas.Bool.Decides.{nat_tests}
use Rattle.std.proofs.lemmas.Fmt.{decimal_is_IsNumeral_wide}
use Rattle.std.proofs.lemmas.Str.Parse.{digit_from_value}
use Rattle.std.specs.Char.{digit_value}
use Rattle.std.specs.Fmt.{decimal, sign_text}
use Rattle.std.specs.Float.Numeral.{Parts, text_of, exponent_text}
use Rattle.std.specs.Str.Parse.{AllDigits}
use Rattle.base64.specs.Rfc4648.{encode_symbols, padding_len}
use Rattle.hex.specs.Hex.{encode_lower, encode_with, lower_digits, upper_digits}
use Rattle.ryu.specs.Plain.{IsLaidOutNumber}
use Rattle.cbor_floats.specs.Decimal.{IsTextOf}
use Rattle.cbor_grammar.proofs.bytes.Laws.{AllBytes, wide_bytes}
use Rattle.cbor_grammar.specs.NotationText.{number, float_bits, encoded_bytes}
use Rattle.cbor_grammar.specs.declared.encoding.Encoding.{Encoding}
use Rattle.cbor_grammar.specs.declared.encoding.Encoding.TheVariants.{Base16, Base64, Base64Url}
use Rattle.cbor_grammar.specs.declared.width.FloatWidth.{FloatWidth}
use Rattle.cbor_grammar.specs.declared.width.FloatWidth.TheVariants as float_width
use Rattle.cbor_grammar.specs.declared.width.IntegerWidth.TheVariants.{Unknown}
use Rattle.cbor_tokens.specs.Base64.{standard_alphabet, url_safe_alphabet}
use Rattle.cbor_json.specs.JsonLeaves.{digits_in, value_digits, is_big_tag, is_negative_tag}
use Rattle.cbor_json.proofs.json.Fills.{is_calm, Calm, calm_append, calm_constant}

-- ---- hex

abbrev CalmHex : List ℕ → Type 0
CalmHex t = (k : ℕ) → k < 16 → is_calm (slice_index t k) ≡ true

lower_hex : CalmHex lower_digits
lower_hex k lt = agree_below_at (λ k. is_calm (slice_index lower_digits k)) (λ k. true) 16 k refl lt

upper_hex : CalmHex upper_digits
upper_hex k lt = agree_below_at (λ k. is_calm (slice_index upper_digits k)) (λ k. true) 16 k refl lt

pairs_calm : (t b : List ℕ) → CalmHex t → AllBytes b → Calm (encode_with t b)
unfolding encode_with
pairs_calm t [] d h = tt
pairs_calm t (x ∷ b) d h =
    let lt : x < 256 = h.0 in (d (x / 16) (omega arith), (d (x % 16) (omega arith), pairs_calm t b d h.1))

pub hex_calm : (b : List ℕ) → AllBytes b → Calm (encode_lower b)
hex_calm b h = pairs_calm lower_digits b lower_hex h

-- ---- base 64

abbrev CalmDigits : List ℕ → Type 0
CalmDigits t = (k : ℕ) → k < 64 → is_calm (slice_index t k) ≡ true

standard_digits : CalmDigits standard_alphabet
standard_digits k lt = agree_below_at (λ k. is_calm (slice_index standard_alphabet k)) (λ k. true) 64 k refl lt

url_safe_digits : CalmDigits url_safe_alphabet
url_safe_digits k lt = agree_below_at (λ k. is_calm (slice_index url_safe_alphabet k)) (λ k. true) 64 k refl lt

symbols_calm : (t b : List ℕ) → CalmDigits t → AllBytes b → Calm (encode_symbols t b)
unfolding encode_symbols
symbols_calm t [] d h = tt
symbols_calm t (x ∷ []) d h =
    let a : x < 256 = h.0 in (d _ (omega (arith, a)), (d _ (omega (arith, a)), tt))
symbols_calm t (x ∷ y ∷ []) d h =
    let a : x < 256 = h.0 in
    let b : y < 256 = h.1.0 in (d _ (omega (arith, a, b)), (d _ (omega (arith, a, b)), (d _ (omega (arith, a, b)), tt)))
symbols_calm t (x ∷ y ∷ z ∷ rest) d h =
    let a : x < 256 = h.0 in
    let b : y < 256 = h.1.0 in
    let c : z < 256 = h.1.1.0 in (
      d _ (omega (arith, a, b, c)),
      (
        d _ (omega (arith, a, b, c)),
        (
          d _ (omega (arith, a, b, c)),
          (d _ (omega (arith, a, b, c)), symbols_calm t rest d h.1.1.1),
        ),
      ),
    )

padding_calm : (n : ℕ) → Calm (replicate n 61)
padding_calm zero = tt
padding_calm (suc n) = (refl, padding_calm n)

pub encoded_calm : (e : Encoding) (b : List ℕ) → AllBytes b → Calm (encoded_bytes e b)
encoded_calm Base16 b h = hex_calm b h
encoded_calm Base64 b h =
    calm_append (encode_symbols standard_alphabet b) _ (symbols_calm standard_alphabet b standard_digits h)
    (padding_calm (padding_len (length b)))
encoded_calm Base64Url b h =
    calm_append (encode_symbols url_safe_alphabet b) [] (symbols_calm url_safe_alphabet b url_safe_digits h) tt

-- ---- bytes of values

pub digits_calm_in : (e : Encoding) (b : List ℕ) → AllBytes b → Calm (digits_in e b)
digits_calm_in Base16 b h = pairs_calm upper_digits b upper_hex h
digits_calm_in Base64 b h = encoded_calm Base64 b h
digits_calm_in Base64Url b h = encoded_calm Base64Url b h

-- by the tests on the tag: for a negative big number, and for any
chosen_calm : (negative big : Bool) (e : Encoding) (b : List ℕ) → AllBytes b
    → Calm (if negative then codes "~" ++ encoded_bytes Base64Url b else if big then encoded_bytes Base64Url b
    else digits_in e b)
chosen_calm true big e b h = (refl, encoded_calm Base64Url b h)
chosen_calm false true e b h = encoded_calm Base64Url b h
chosen_calm false false e b h = digits_calm_in e b h

pub value_calm : (tag : Option ℕ) (e : Encoding) (b : List ℕ) → AllBytes b → Calm (value_digits tag e b)
value_calm tag e b h = chosen_calm (is_negative_tag tag) (is_big_tag tag) e b h

-- ---- decimal

digit_calm : (c : ℕ) → digit_value c < 10 → is_calm c ≡ true
digit_calm c lt = let range = digit_from_value c lt in grind (arith, nat_tests, range)

digits_calm : (t : List ℕ) → AllDigits 10 t → Calm t
digits_calm [] h = tt
digits_calm (c ∷ t) h = (digit_calm c h.0, digits_calm t h.1)

pub big_calm : (negative : Bool) (ds : List ℕ) → AllDigits 10 ds → Calm (sign_text negative ++ ds)
big_calm true ds h = (refl, digits_calm ds h)
big_calm false ds h = digits_calm ds h

pub decimal_calm : (n : ℕ) → n ≤ 2 ^ 64 → Calm (decimal n)
decimal_calm n le = digits_calm (decimal n) (decimal_is_IsNumeral_wide n (omega (arith, le))).0.1

pub number_calm : (n : ℕ) → n ≤ 2 ^ 64 → Calm (number n Unknown)
number_calm n le = calm_append (decimal n) [] (decimal_calm n le) tt

-- ---- floats

sign_calm : (negative : Bool) → Calm (sign_text negative)
sign_calm true = (refl, tt)
sign_calm false = tt

exponent_calm : (negative : Bool) (ds : List ℕ) → AllDigits 10 ds → Calm (exponent_text negative ds)
exponent_calm negative [] h = tt
exponent_calm negative (d ∷ ds) h =
    (refl, calm_append (sign_text negative) (d ∷ ds) (sign_calm negative) (digits_calm (d ∷ ds) h))

point_calm : (point : Bool) (ds : List ℕ) → AllDigits 10 ds → Calm (if point then 46 ∷ ds else [])
point_calm true ds h = (refl, digits_calm ds h)
point_calm false ds h = tt

laid_out_calm : (text : List ℕ) → IsLaidOutNumber 16 4 text → Calm text
laid_out_calm text h =
    let p : Parts = h.3.0 in
    let well = h.3.2.well_formed in
    let size : Calm (text_of p) =
    calm_append p.whole _ (digits_calm p.whole well.whole_digits)
    (calm_append (if p.point then 46 ∷ p.fraction else []) _ (point_calm p.point p.fraction well.fraction_digits)
    (exponent_calm p.exponent_negative p.exponent well.exponent_digits)) in
    subst Calm (sym (h.2 ∙ ap (λ x. sign_text h.0 ++ x) h.3.1))
    (calm_append (sign_text h.0) (text_of p) (sign_calm h.0) size)

pub number_text_calm : (text : List ℕ) {x : _} → IsTextOf text x → Calm text
number_text_calm text h = elim h.number [
  | inl word ↦ elim word [
    | inl nan ↦ subst Calm (sym nan.0) (calm_constant (codes "NaN") refl)
    | inr more ↦ elim more [
      | inl inf ↦ subst Calm (sym inf.0) (calm_constant (codes "Infinity") refl)
      | inr minus ↦ subst Calm (sym minus.0) (calm_constant (codes "-Infinity") refl)
    ]
  ]
  | inr finite ↦ laid_out_calm text (h.layout finite.2)
]

pub float_bytes : (bits : ℕ) (w : FloatWidth) → AllBytes (float_bits bits w)
float_bytes bits float_width.Unknown = wide_bytes bits
float_bytes bits float_width.Sixteen = (omega arith, (omega arith, tt))
float_bytes bits float_width.ThirtyTwo = (omega arith, (omega arith, (omega arith, (omega arith, tt))))
float_bytes bits float_width.SixtyFour = wide_bytes bits
