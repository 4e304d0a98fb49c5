-- `base32_of` decodes what `encode` writes in either alphabet of base 32, and `base64_of` decodes what `url_safe` and
-- `standard` write in base 64: they return the bytes that were encoded. `DigitsFound.antt` has the other direction.
use Rattle.std.proofs.Common.{◌≡◌, ℕ, zero, suc, ◌+◌, ◌*◌, ◌/◌, ◌%◌, ◌<◌, true, false, ◌==◌, List, [], ◌∷◌, ◌++◌, map}
use Rattle.std.proofs.Common.{length, take, replicate, slice_index, codes, Option, Some, None, refl, ap, ◌∙◌, arith}
use Rattle.std.specs.List.{list_any, position_or_len}
use Rattle.std.specs.Str.{bytes_eq}
use Rattle.std.specs.Int.Digits.{AllBelowBase}
use Rattle.std.proofs.Math.Numerals.{one-add}
use Rattle.std.proofs.lemmas.Bool.{agree_below, agree_below_at, or_parts, or_from, eqb-true, cond-true, cond_both}
use Rattle.std.proofs.lemmas.List.{append-nil, take_at, take_all}
use Rattle.std.proofs.lemmas.Slice.Eq.{bytes_eq-Decides}
use Rattle.base64.specs.Rfc4648.{encode_symbols, padding_len}
use Rattle.cbor_tokens.specs.AreBytes.{AreBytes}
use Rattle.cbor_tokens.specs.Base32 as base32
use Rattle.cbor_tokens.specs.Base32.{Alphabet, extended_hex, characters, encode}
use Rattle.cbor_tokens.specs.Base64.{standard, url_safe}
use Rattle.cbor_tokens.proofs.bases.Fives.{fives, padding, values_below, group_again, base32_values, base32hex_values}
use Rattle.cbor_notation.specs.mirror.NotationReading.{if_encoded, either, value_in, from_fives, from_sixes, six_bits}
use Rattle.cbor_notation.specs.mirror.NotationReading.{unpadded, base32_of, base64_of}
use Rattle.cbor_notation.proofs.notation.Lists.{position_at}

-- ---- an alphabet: the digit of each value, and the value of each digit

record IsAlphabet (size : ℕ) (digit : ℕ → ℕ) (value : ℕ → ℕ) : Type 0 where
  back : (v : ℕ) → v < size → value (digit v) ≡ v
  plain : (v : ℕ) → v < size → (digit v == 61) ≡ false

no_padding : (front : List ℕ) → list_any (λ d. d == 61) front ≡ false
    → position_or_len (λ d. d == 61) front ≡ length front
no_padding [] none = refl
no_padding (x ∷ front) none =
    let parts = or_parts (x == 61) (list_any (λ d. d == 61) front) none in
    rw (parts.0, one-add (position_or_len (λ d. d == 61) front)) (ap suc (no_padding front parts.1))

-- the digits before the padding
unpadded_front : (front : List ℕ) (n : ℕ) → list_any (λ d. d == 61) front ≡ false
    → unpadded (front ++ replicate n 61) ≡ front
unpadded_front front zero none =
    ap unpadded (append-nil front) ∙ (ap (λ (n : ℕ). take n front) (no_padding front none)
    ∙ take_all (length front) front (omega arith))
unpadded_front front (suc n) none =
    ap (λ (k : ℕ). take k (front ++ replicate (suc n) 61))
    (position_at (λ d. d == 61) front 61 (replicate n 61) none refl)
    ∙ take_at front (replicate (suc n) 61) (length front) refl

module _ (size : ℕ) (digit : ℕ → ℕ) (value : ℕ → ℕ) (is : IsAlphabet size digit value) where
  digits_plain : (vs : List ℕ) → AllBelowBase size vs → list_any (λ d. d == 61) (map digit vs) ≡ false
  digits_plain [] all = refl
  digits_plain (v ∷ vs) all = or_from (digit v == 61) _ (is.plain v all.0) (digits_plain vs all.1)

  values_back : (vs : List ℕ) → AllBelowBase size vs → map value (map digit vs) ≡ vs
  values_back [] all = refl
  values_back (v ∷ vs) all = rw (is.back v all.0, values_back vs all.1) refl

  values_read : (vs digits : List ℕ) (n : ℕ) → AllBelowBase size vs → digits ≡ map digit vs ++ replicate n 61
      → map value (unpadded digits) ≡ vs
  values_read vs digits n all digits_are =
      ap (λ (d : List ℕ). map value (unpadded d)) digits_are
      ∙ (ap (map value) (unpadded_front (map digit vs) n (digits_plain vs all)) ∙ values_back vs all)

-- the answer where its encoding is these digits
encoded_is : (encode : List ℕ → List ℕ) (digits bytes : List ℕ) → encode bytes ≡ digits
    → if_encoded encode digits bytes ≡ Some bytes
encoded_is encode digits bytes is = cond-true (bytes_eq (encode bytes) digits) (Some bytes) None
    ((bytes_eq-Decides (encode bytes) digits).1 is)

-- ---- base 32

abbrev all_fives : List ℕ → Type 0
all_fives bytes = AllBelowBase 32 (fives bytes)

fives_below : (bytes : List ℕ) → all_fives bytes
unfolding fives
fives_below [] = tt
fives_below (a ∷ []) = values_below (a ∷ []) (omega arith)
fives_below (a ∷ b ∷ []) = values_below (a ∷ b ∷ []) (omega arith)
fives_below (a ∷ b ∷ c ∷ []) = values_below (a ∷ b ∷ c ∷ []) (omega arith)
fives_below (a ∷ b ∷ c ∷ d ∷ []) = values_below (a ∷ b ∷ c ∷ d ∷ []) (omega arith)
fives_below (a ∷ b ∷ c ∷ d ∷ e ∷ bytes) =
    let v = values_below (a ∷ b ∷ c ∷ d ∷ e ∷ []) (omega arith) in (
      v.0,
      (
        v.1.0,
        (
          v.1.1.0,
          (
            v.1.1.1.0,
            (
              v.1.1.1.1.0,
              (v.1.1.1.1.1.0, (v.1.1.1.1.1.1.0, (v.1.1.1.1.1.1.1.0, fives_below bytes))),
            ),
          ),
        ),
      ),
    )

from_fives_again : (bytes : List ℕ) → AreBytes bytes → from_fives (fives bytes) ≡ bytes
unfolding fives from_fives
from_fives_again [] all = refl
from_fives_again (a ∷ []) all = group_again (a ∷ []) (all, omega arith, omega arith)
from_fives_again (a ∷ b ∷ []) all = group_again (a ∷ b ∷ []) (all, omega arith, omega arith)
from_fives_again (a ∷ b ∷ c ∷ []) all = group_again (a ∷ b ∷ c ∷ []) (all, omega arith, omega arith)
from_fives_again (a ∷ b ∷ c ∷ d ∷ []) all = group_again (a ∷ b ∷ c ∷ d ∷ []) (all, omega arith, omega arith)
from_fives_again (a ∷ b ∷ c ∷ d ∷ e ∷ bytes) all =
    let group : List ℕ = a ∷ b ∷ c ∷ d ∷ e ∷ [] in
    ap (λ (front : List ℕ). front ++ from_fives (fives bytes))
    (group_again group (
      (all.0, (all.1.0, (all.1.1.0, (all.1.1.1.0, (all.1.1.1.1.0, tt))))),
      omega arith,
      omega arith,
    ))
    ∙ ap (λ (rest : List ℕ). group ++ rest) (from_fives_again bytes all.1.1.1.1.1)

-- by trying each value
alphabet_of : (size : ℕ) (symbols : List ℕ) (value : ℕ → ℕ)
    → agree_below (λ v. value (slice_index symbols v) == v) (λ v. true) size ≡ true
    → agree_below (λ v. slice_index symbols v == 61) (λ v. false) size ≡ true
    → IsAlphabet size (slice_index symbols) value
alphabet_of size symbols value back plain = record {
  back = λ v small. eqb-true _ v
      (agree_below_at (λ v. value (slice_index symbols v) == v) (λ v. true) size v back small);
  plain = λ v small. agree_below_at (λ v. slice_index symbols v == 61) (λ v. false) size v plain small;
}

base32_alphabet : (alphabet : Alphabet)
    → IsAlphabet 32 (slice_index (characters alphabet)) (value_in (characters alphabet))
base32_alphabet base32.standard = alphabet_of 32 (characters base32.standard) _ refl refl
base32_alphabet extended_hex = alphabet_of 32 (characters extended_hex) _ refl refl

encode_values : (alphabet : Alphabet) (bytes : List ℕ)
    → encode alphabet bytes ≡ map (slice_index (characters alphabet)) (fives bytes) ++ replicate (padding bytes) 61
encode_values base32.standard bytes = base32_values bytes
encode_values extended_hex bytes = base32hex_values bytes

pub base32_again : (alphabet : Alphabet) (bytes : List ℕ) → AreBytes bytes
    → base32_of alphabet (encode alphabet bytes) ≡ Some bytes
unfolding base32_of
base32_again alphabet bytes all =
    let digits : List ℕ = encode alphabet bytes in
    ap (if_encoded (encode alphabet) digits)
    (ap from_fives (values_read 32 _ _ (base32_alphabet alphabet) (fives bytes) digits (padding bytes)
    (fives_below bytes) (encode_values alphabet bytes)) ∙ from_fives_again bytes all)
    ∙ encoded_is (encode alphabet) digits bytes refl

-- ---- base 64

-- the values of the digits
unfoldable sixes : List ℕ → List ℕ
sixes [] = []
sixes (a ∷ []) = a / 4 ∷ a % 4 * 16 ∷ []
sixes (a ∷ b ∷ []) = a / 4 ∷ (a % 4 * 16 + b / 16) ∷ b % 16 * 4 ∷ []
sixes (a ∷ b ∷ c ∷ bytes) = a / 4 ∷ (a % 4 * 16 + b / 16) ∷ (b % 16 * 4 + c / 64) ∷ c % 64 ∷ sixes bytes

symbols_are : (symbols bytes : List ℕ) → encode_symbols symbols bytes ≡ map (slice_index symbols) (sixes bytes)
unfolding encode_symbols sixes
symbols_are symbols [] = refl
symbols_are symbols (a ∷ []) = refl
symbols_are symbols (a ∷ b ∷ []) = refl
symbols_are symbols (a ∷ b ∷ c ∷ bytes) =
    ap (λ (rest : List ℕ). slice_index symbols (a / 4) ∷ slice_index symbols (a % 4 * 16 + b / 16)
    ∷ slice_index symbols (b % 16 * 4 + c / 64) ∷ slice_index symbols (c % 64) ∷ rest) (symbols_are symbols bytes)

sixes_below : (bytes : List ℕ) → AreBytes bytes → AllBelowBase 64 (sixes bytes)
unfolding sixes
sixes_below [] all = tt
sixes_below (a ∷ []) all = let x = all.0 in (omega arith, (omega arith, tt))
sixes_below (a ∷ b ∷ []) all = let x = all.0 in let y = all.1.0 in (omega arith, (omega arith, (omega arith, tt)))
sixes_below (a ∷ b ∷ c ∷ bytes) all =
    let x = all.0 in
    let y = all.1.0 in
    let z = all.1.1.0 in
    (omega arith, (omega arith, (omega arith, (omega arith, sixes_below bytes all.1.1.1))))

from_sixes_again : (bytes : List ℕ) → AreBytes bytes → from_sixes (sixes bytes) ≡ bytes
unfolding sixes from_sixes
from_sixes_again [] all = refl
from_sixes_again (a ∷ []) all = let x : a / 4 * 4 + a % 4 * 16 / 16 ≡ a = omega arith in rw x refl
from_sixes_again (a ∷ b ∷ []) all =
    let x : a / 4 * 4 + (a % 4 * 16 + b / 16) / 16 ≡ a = omega (arith, all.1.0) in
    let y : (a % 4 * 16 + b / 16) % 16 * 16 + b % 16 * 4 / 4 ≡ b = omega (arith, all.1.0) in
    rw (x, y) refl
from_sixes_again (a ∷ b ∷ c ∷ bytes) all =
    let x : a / 4 * 4 + (a % 4 * 16 + b / 16) / 16 ≡ a = omega (arith, all.1.0) in
    let y : (a % 4 * 16 + b / 16) % 16 * 16 + (b % 16 * 4 + c / 64) / 4 ≡ b = omega (arith, all.1.0, all.1.1.0) in
    let z : (b % 16 * 4 + c / 64) % 4 * 64 + c % 64 ≡ c = omega (arith, all.1.1.0) in
    rw (x, y, z, from_sixes_again bytes all.1.1.1) refl

abbrev url_safe_symbols : List ℕ
url_safe_symbols = codes "ABCDEFGHIJKLMNOPQRSTUVWXYZabcdefghijklmnopqrstuvwxyz0123456789-_"

abbrev standard_symbols : List ℕ
standard_symbols = codes "ABCDEFGHIJKLMNOPQRSTUVWXYZabcdefghijklmnopqrstuvwxyz0123456789+/"

is_url_safe : IsAlphabet 64 (slice_index url_safe_symbols) six_bits
is_url_safe = alphabet_of 64 url_safe_symbols six_bits refl refl

is_standard : IsAlphabet 64 (slice_index standard_symbols) six_bits
is_standard = alphabet_of 64 standard_symbols six_bits refl refl

-- one of two encodings
first_of : (one other : List ℕ → List ℕ) (digits bytes found : List ℕ) → found ≡ bytes → one bytes ≡ digits
    → either (if_encoded one digits found) (if_encoded other digits found) ≡ Some bytes
first_of one other digits bytes found found_is is =
    ap (λ (b : List ℕ). either (if_encoded one digits b) (if_encoded other digits b)) found_is
    ∙ ap (λ (o : Option (List ℕ)). either o (if_encoded other digits bytes)) (encoded_is one digits bytes is)

second_of : (one other : List ℕ → List ℕ) (digits bytes found : List ℕ) → found ≡ bytes → other bytes ≡ digits
    → either (if_encoded one digits found) (if_encoded other digits found) ≡ Some bytes
second_of one other digits bytes found found_is is =
    ap (λ (b : List ℕ). either (if_encoded one digits b) (if_encoded other digits b)) found_is
    ∙ (ap (λ (o : Option (List ℕ)). either (if_encoded one digits bytes) o) (encoded_is other digits bytes is)
    ∙ cond_both (bytes_eq (one bytes) digits) (Some bytes) None (λ o. either o (Some bytes) ≡ Some bytes) (λ e. refl)
    (λ e. refl))

sixes_read : (symbols bytes digits : List ℕ) (n : ℕ) → IsAlphabet 64 (slice_index symbols) six_bits → AreBytes bytes
    → digits ≡ encode_symbols symbols bytes ++ replicate n 61 → from_sixes (map six_bits (unpadded digits)) ≡ bytes
sixes_read symbols bytes digits n is all digits_are =
    ap from_sixes (values_read 64 (slice_index symbols) six_bits is (sixes bytes) digits n (sixes_below bytes all)
    (digits_are ∙ ap (λ (front : List ℕ). front ++ replicate n 61) (symbols_are symbols bytes)))
    ∙ from_sixes_again bytes all

pub url_safe_again : (bytes : List ℕ) → AreBytes bytes → base64_of (url_safe bytes) ≡ Some bytes
unfolding base64_of
url_safe_again bytes all = first_of url_safe standard (url_safe bytes) bytes _
    (sixes_read url_safe_symbols bytes (url_safe bytes) 0 is_url_safe all refl) refl

pub standard_again : (bytes : List ℕ) → AreBytes bytes → base64_of (standard bytes) ≡ Some bytes
unfolding base64_of
standard_again bytes all = second_of url_safe standard (standard bytes) bytes _
    (sixes_read standard_symbols bytes (standard bytes) (padding_len (length bytes)) is_standard all refl) refl
