-- If `base32_of` or `base64_of` returns bytes, the digits are an encoding of these bytes (`Decoded.antt` has the other
-- direction). So code that finds bytes with these digits, or finds that there are none, returns the same as the
-- definitions (`base32_answer`, `base64_answer`).
use Rattle.std.proofs.Common.{◌≡◌, ◌≢◌, ℕ, ◌-◌, ◌*◌, ◌/◌, ◌^◌, ◌<◌, ◌==◌, ◌||◌, ◌⊎◌, inl, inr, Bool, true, false}
use Rattle.std.proofs.Common.{if◌then◌else◌, List, [], ◌∷◌, length, map, take, zero, suc, position, unwrap_or, bytes_eq}
use Rattle.std.proofs.Common.{codes, Vec, Global, Option, Some, None, refl, sym, ap, subst, ◌∙◌, arith, lit<}
use Rattle.std.specs.Int.Digits.{AllBelowBase, number_from_digits}
use Rattle.std.specs.Option.{ok_or, IfSome, IfNone}
use Rattle.std.proofs.lemmas.Slice.Eq.{bytes_eq-Decides}
use Rattle.cbor_tokens.specs.AreBytes.{AreBytes}
use Rattle.cbor_tokens.specs.Base32.{Alphabet, characters, places, encode}
use Rattle.cbor_tokens.specs.Base64.{standard, url_safe}
use Rattle.cbor_tokens.proofs.bases.Base32Encode.{AllBelowBase-append}
use Rattle.cbor_tokens.proofs.bases.Places.{AllBelowBase-places}
use Rattle.cbor_tokens.proofs.tokens.TextPlaces.{first_at}
use Rattle.cbor_notation.proofs.notation.Decoded.{base32_again, url_safe_again, standard_again}
use Rattle.cbor_grammar.specs.declared.error.Error.TheVariants as refusal
use Rattle.cbor_grammar.specs.Reading.{Gives}
use Rattle.cbor_notation.specs.mirror.NotationReading.{or_refused, if_encoded, either, value_in, bytes_of_fives}
use Rattle.cbor_notation.specs.mirror.NotationReading.{from_fives}
use Rattle.cbor_notation.specs.mirror.NotationReading.{from_sixes, six_bits, unpadded, base32_of, base64_of}

-- the answer whose encoding was compared
encoded_is : (encode : List ℕ → List ℕ) (digits answer bytes : List ℕ) → if_encoded encode digits answer ≡ Some bytes
    → (answer ≡ bytes) × (digits ≡ encode bytes)
encoded_is encode digits answer bytes e = by_test (bytes_eq (encode answer) digits) refl where
  by_test : (t : Bool) → bytes_eq (encode answer) digits ≡ t → (answer ≡ bytes) × (digits ≡ encode bytes)
  by_test true is =
      let same : ◌≡◌ {A = Option (List ℕ)} (Some answer) (Some bytes) =
      sym (ap (λ t. if t then Some answer else None) is) ∙ e in
      let one : answer ≡ bytes = cc same in
      (one, sym ((bytes_eq-Decides (encode answer) digits).0 is) ∙ ap encode one)
  by_test false is = let never : ◌≡◌ {A = Option (List ℕ)} None (Some bytes) =
      sym (ap (λ t. if t then Some answer else None) is) ∙ e in absurd (cc never)

-- ---- the answer is bytes

below_take : (base n : ℕ) (digits : List ℕ) → AllBelowBase base digits → AllBelowBase base (take n digits)
below_take base zero digits all = tt
below_take base (suc n) [] all = tt
below_take base (suc n) (d ∷ digits) all = (all.0, below_take base n digits all.1)

fives_are : (values : List ℕ) → AreBytes (bytes_of_fives values)
fives_are values = below_take 256 (5 * length values / 8)
    (places 256 5 (number_from_digits 32 values * 32 ^ (8 - length values)))
    (AllBelowBase-places 256 5 (number_from_digits 32 values * 32 ^ (8 - length values)) (lit< tt))

from_fives_are : (values : List ℕ) → AreBytes (from_fives values)
unfolding from_fives
from_fives_are (a ∷ b ∷ c ∷ d ∷ e ∷ f ∷ g ∷ h ∷ values) =
    AllBelowBase-append 256 (bytes_of_fives (a ∷ b ∷ c ∷ d ∷ e ∷ f ∷ g ∷ h ∷ [])) (from_fives values)
    (fives_are (a ∷ b ∷ c ∷ d ∷ e ∷ f ∷ g ∷ h ∷ [])) (from_fives_are values)
from_fives_are values = fives_are values

from_sixes_are : (values : List ℕ) → AllBelowBase 64 values → AreBytes (from_sixes values)
unfolding from_sixes
from_sixes_are [] all = tt
from_sixes_are (a ∷ []) all = tt
from_sixes_are (a ∷ b ∷ []) all = let x = all.0 in let y = all.1.0 in (omega arith, tt)
from_sixes_are (a ∷ b ∷ c ∷ []) all = let x = all.0 in let y = all.1.0 in let z =
    all.1.1.0 in (omega arith, (omega arith, tt))
from_sixes_are (a ∷ b ∷ c ∷ d ∷ values) all =
    let x = all.0 in let y = all.1.0 in let z = all.1.1.0 in let w = all.1.1.1.0 in
    (omega arith, (omega arith, (omega arith, from_sixes_are values all.1.1.1.1)))

value-lt : (alphabet : List ℕ) (digit : ℕ) → 0 < length alphabet → value_in alphabet digit < length alphabet
value-lt alphabet digit some = by_place (position (λ c. c == digit) alphabet) refl where
  by_place : (place : Option ℕ) → position (λ c. c == digit) alphabet ≡ place → unwrap_or place 0 < length alphabet
  by_place None e = some
  by_place (Some i) e = (first_at (λ c. c == digit) alphabet (Some i) i (sym e) refl).1

six_bits-lt : (digit : ℕ) → six_bits digit < 64
six_bits-lt digit = by_tests ((digit == 43) || (digit == 45)) ((digit == 47) || (digit == 95)) where
  letters : List ℕ
  letters = codes "ABCDEFGHIJKLMNOPQRSTUVWXYZabcdefghijklmnopqrstuvwxyz0123456789"

  by_tests : (s t : Bool) → (if s then 62 else if t then 63 else value_in letters digit) < 64
  by_tests true t = lit< tt
  by_tests false true = lit< tt
  by_tests false false = let low = value-lt letters digit (lit< tt) in omega (arith, low)

all_six_bits : (digits : List ℕ) → AllBelowBase 64 (map six_bits digits)
all_six_bits [] = tt
all_six_bits (d ∷ digits) = (six_bits-lt d, all_six_bits digits)

-- ---- the decoders

pub base32_found : (alphabet : Alphabet) (digits bytes : List ℕ) → base32_of alphabet digits ≡ Some bytes
    → AreBytes bytes × (digits ≡ encode alphabet bytes)
unfolding base32_of
base32_found alphabet digits bytes e =
    let values = map (value_in (characters alphabet)) (unpadded digits) in
    let is = encoded_is (encode alphabet) digits (from_fives values) bytes e in
    (subst AreBytes is.0 (from_fives_are values), is.1)

pub base64_found : (digits bytes : List ℕ) → base64_of digits ≡ Some bytes
    → AreBytes bytes × ((digits ≡ url_safe bytes) ⊎ (digits ≡ standard bytes))
unfolding base64_of
base64_found digits bytes e = by_first (if_encoded url_safe digits answer) refl e where
  values : List ℕ
  values = map six_bits (unpadded digits)

  answer : List ℕ
  answer = from_sixes values

  are : AreBytes answer
  are = from_sixes_are values (all_six_bits (unpadded digits))

  by_first : (r : Option (List ℕ)) → if_encoded url_safe digits answer ≡ r
      → either r (if_encoded standard digits answer) ≡ Some bytes
      → AreBytes bytes × ((digits ≡ url_safe bytes) ⊎ (digits ≡ standard bytes))
  by_first None first is =
      let found = encoded_is standard digits answer bytes is in
      (subst AreBytes found.0 are, inr found.1)
  by_first (Some other) first is =
      let found = encoded_is url_safe digits answer bytes (first ∙ is) in
      (subst AreBytes found.0 are, inl found.1)

-- ---- where no bytes have these digits

none_found : (r : Option (List ℕ)) → ((bytes : List ℕ) → ¬ (r ≡ Some bytes)) → r ≡ None
none_found None none = refl
none_found (Some bytes) none = absurd (none bytes refl)

base32_missing : (alphabet : Alphabet) (digits : List ℕ)
    → ((bytes : List ℕ) → AreBytes bytes → digits ≢ encode alphabet bytes) → base32_of alphabet digits ≡ None
base32_missing alphabet digits none = none_found (base32_of alphabet digits)
    (λ bytes e. let found = base32_found alphabet digits bytes e in none bytes found.0 found.1)

-- what was found, or why nothing was, is the answer
pub base32_answer : (alphabet : Alphabet) (digits : List ℕ) (found : Option (Vec ℕ Global))
    → IfSome found (λ v. AreBytes v.items × (digits ≡ encode alphabet v.items))
    → IfNone found ((bytes : List ℕ) → AreBytes bytes → digits ≢ encode alphabet bytes)
    → Gives (λ v. v.items) (ok_or found refusal.Notation) (or_refused (base32_of alphabet digits))
base32_answer alphabet digits (Some v) is none =
    ap or_refused (ap (base32_of alphabet) is.1 ∙ base32_again alphabet v.items is.0)
base32_answer alphabet digits None is none = ap or_refused (base32_missing alphabet digits none)

base64_missing : (digits : List ℕ) → ((bytes : List ℕ) → AreBytes bytes
    → (digits ≢ url_safe bytes) × (digits ≢ standard bytes)) → base64_of digits ≡ None
base64_missing digits none = none_found (base64_of digits)
    (λ bytes e. let found = base64_found digits bytes e in neither bytes found.0 found.1) where
      neither : (bytes : List ℕ) → AreBytes bytes → ¬ ((digits ≡ url_safe bytes) ⊎ (digits ≡ standard bytes))
      neither bytes are (inl e) = (none bytes are).0 e
      neither bytes are (inr e) = (none bytes are).1 e

base64_again : (digits bytes : List ℕ) → AreBytes bytes → (digits ≡ url_safe bytes) ⊎ (digits ≡ standard bytes)
    → base64_of digits ≡ Some bytes
base64_again digits bytes are (inl e) = ap base64_of e ∙ url_safe_again bytes are
base64_again digits bytes are (inr e) = ap base64_of e ∙ standard_again bytes are

pub base64_answer : (digits : List ℕ) (found : Option (Vec ℕ Global))
    → IfSome found (λ v. AreBytes v.items × ((digits ≡ url_safe v.items) ⊎ (digits ≡ standard v.items)))
    → IfNone found ((bytes : List ℕ) → AreBytes bytes → (digits ≢ url_safe bytes) × (digits ≢ standard bytes))
    → Gives (λ v. v.items) (ok_or found refusal.Notation) (or_refused (base64_of digits))
base64_answer digits (Some v) is none = ap or_refused (base64_again digits v.items is.0 is.1)
base64_answer digits None is none = ap or_refused (base64_missing digits none)
