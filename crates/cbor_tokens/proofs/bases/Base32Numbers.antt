-- Digits in base 32 write only one number (`Writes`); it is below 32 to the power of their count, and each digit has a
-- value below 32. One digit more makes the number 32 times as large, plus the value of this digit.
use Rattle.std.proofs.Common.{◌≡◌, ℕ, zero, suc, ◌+◌, ◌*◌, ◌^◌, ◌<◌, List, [], ◌∷◌, ◌++◌, map, length, get_or}
use Rattle.std.proofs.Common.{slice_index, refl, sym, ap, ◌∙◌, arith}
use Rattle.std.proofs.lemmas.List.{map_push, length-map, get_or-map}
use Rattle.std.proofs.lemmas.Int.Digits.{number_push, number_lt}
use Rattle.std.specs.Int.Digits.{AllBelowBase, number_from_digits}
use Rattle.cbor_tokens.specs.Base32.{characters, Writes}
use Rattle.cbor_tokens.specs.Base32.{Alphabet}
use Rattle.cbor_tokens.proofs.bases.Base32Alphabet.{same_value}
use Rattle.cbor_tokens.proofs.bases.Places.{AllBelowBase_push}

-- one more digit
pub writes_more : (a : Alphabet) (digits more : List ℕ) (number digit value : ℕ) → Writes a digits number
    → value < 32 → slice_index (characters a) value ≡ digit → more ≡ digits ++ digit ∷ []
    → Writes a more (number * 32 + value)
writes_more a digits more number digit value w small is more_is = record {
  values = w.values ++ value ∷ [];
  below = AllBelowBase_push 32 w.values value w.below small;
  digits_are = more_is ∙ rw (w.digits_are, map_push (slice_index (characters a)) w.values value, is) refl;
  number_is = rw (w.number_is, number_push 32 w.values value) refl;
}

pub written-lt : (a : Alphabet) (digits : List ℕ) (number : ℕ) → Writes a digits number → number < 32 ^ length digits
written-lt a digits number w = rw (w.digits_are, length-map, w.number_is) (number_lt 32 w.values w.below)

below_at : (b : ℕ) (ds : List ℕ) (i : ℕ) → AllBelowBase b ds → i < length ds → get_or ds i 0 < b
below_at b [] i all small = absurd (omega (arith, small))
below_at b (d ∷ ds) zero all small = all.0
below_at b (d ∷ ds) (suc i) all small = below_at b ds i all.1 (omega (arith, small))

-- each digit has a value
pub written_at : (a : Alphabet) (digits : List ℕ) (number i : ℕ) → Writes a digits number → i < length digits
    → (value : ℕ) × (value < 32) × (slice_index (characters a) value ≡ slice_index digits i)
written_at a digits number i w small =
    let fits : i < length w.values = rw (w.digits_are, length-map) at small in (
      get_or w.values i 0,
      below_at 32 w.values i w.below fits,
      sym (rw w.digits_are (get_or-map (slice_index (characters a)) w.values i 0 0 fits)),
    )

same_values : (a : Alphabet) (xs ys : List ℕ) → AllBelowBase 32 xs → AllBelowBase 32 ys
    → map (slice_index (characters a)) xs ≡ map (slice_index (characters a)) ys → xs ≡ ys
same_values a [] [] x y is = refl
same_values a [] (d ∷ ys) x y is = cc is
same_values a (c ∷ xs) [] x y is = cc is
same_values a (c ∷ xs) (d ∷ ys) x y is =
    let head : slice_index (characters a) c ≡ slice_index (characters a) d = cc is in
    let tail : map (slice_index (characters a)) xs ≡ map (slice_index (characters a)) ys = cc is in
    rw (same_value a c d x.0 y.0 head, same_values a xs ys x.1 y.1 tail) refl

-- the same digits write the same number
pub same_written : (a : Alphabet) (digits : List ℕ) (m n : ℕ) → Writes a digits m → Writes a digits n → m ≡ n
same_written a digits m n v w =
    v.number_is ∙ ap (number_from_digits 32)
    (same_values a v.values w.values v.below w.below (sym v.digits_are ∙ w.digits_are)) ∙ sym w.number_is
