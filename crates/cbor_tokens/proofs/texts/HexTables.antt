-- The tables in `hex_digits.rt` are right: `PAIRS` has the two digits of each byte, and the entries in `FIRST_VALUES`
-- and `SECOND_VALUES` add up to the value of two digits (`digits_value`). In the loop of `read_hex`, the bytes so far
-- are those of the digits so far, or the digits have no bytes (`HasRead`).
use Rattle.std.proofs.Common.{◌≡◌, ℕ, ◌+◌, ◌*◌, ◌/◌, ◌%◌, ◌<◌, ◌≤◌, ◌==◌, ◌&&◌, inl, inr, Bool, eqb-true}
use Rattle.std.proofs.Common.{List, length, take, drop, slice_index, slice_set, Option, Some, None, Ok, Err, refl, sym}
use Rattle.std.proofs.Common.{ap, ◌∙◌, arith}
use Rattle.std.proofs.lemmas.Bool.{and_parts, cases_lt}
use Rattle.std.proofs.lemmas.Nat.{le_or_l, le_or_r, or_lt}
use Rattle.std.specs.Int.Bits.{bit_or}
use Rattle.base64.proofs.Tables.{all_below_at}
use Rattle.hex.specs.Hex.{lower_digits, hex_digit_value, decode_pairs, pair_value}
use Rattle.hex.specs.declared.error.FromHexError.{FromHexError}
use Rattle.hex.specs.declared.error.FromHexError.TheVariants.{InvalidHexCharacter}
use Rattle.hex.proofs.Pairs.{prepend, decode_step, decode_err}
use Rattle.cbor_tokens.specs.HexDigits.{first_of, second_of, digits_value}
use Rattle.cbor_tokens.specs.declared.hex_digits.TheConstants.{PAIRS, FIRST_VALUES, SECOND_VALUES}

abbrev is_pair : ℕ → Bool
is_pair b = (slice_index PAIRS (2 * b) == slice_index lower_digits (b / 16))
    && (slice_index PAIRS (2 * b + 1) == slice_index lower_digits (b % 16))

-- the two digits of a byte
pub pair_of : (b at : ℕ) → at ≡ b → b < 256 → (slice_index PAIRS (2 * at) ≡ slice_index lower_digits (b / 16))
    × (slice_index PAIRS (2 * at + 1) ≡ slice_index lower_digits (b % 16))
pair_of b at is h =
    let parts = and_parts _ _ (all_below_at is_pair 256 b refl h) in
    rw is (eqb-true _ _ parts.0, eqb-true _ _ parts.1)

abbrev is_value : ℕ → Bool
is_value c = (slice_index FIRST_VALUES c == first_of (hex_digit_value c))
    && (slice_index SECOND_VALUES c == second_of (hex_digit_value c))

-- the values of a byte
values_of : (c : ℕ) → c < 256 → (slice_index FIRST_VALUES c ≡ first_of (hex_digit_value c))
    × (slice_index SECOND_VALUES c ≡ second_of (hex_digit_value c))
values_of c h =
    let parts = and_parts _ _ (all_below_at is_value 256 c refl h) in
    (eqb-true _ _ parts.0, eqb-true _ _ parts.1)

-- a digit's value is below 16
small : (c v : ℕ) → hex_digit_value c ≡ Some v → v < 16
small c v h = grind (arith)

first_bound : (c : ℕ) (x : Option ℕ) → hex_digit_value c ≡ x → first_of x ≤ 256
first_bound c (Some v) e = let s = small c v e in omega (arith, s)
first_bound c None e = omega arith

second_bound : (c : ℕ) (x : Option ℕ) → hex_digit_value c ≡ x → second_of x ≤ 256
second_bound c (Some v) e = let s = small c v e in omega (arith, s)
second_bound c None e = omega arith

-- the sum of two values does not wrap
value_small : (a b : ℕ) → digits_value a b ≤ 512
value_small a b =
    let first = first_bound a _ refl in
    let second = second_bound b _ refl in
    omega (arith, first, second)

-- what the tables give for two bytes
pub value_found : (a b x y : ℕ) → x ≡ a → y ≡ b → a < 256 → b < 256
    → slice_index FIRST_VALUES x + slice_index SECOND_VALUES y ≡ digits_value a b
value_found a b x y x_is y_is ha hb = rw (x_is, y_is, (values_of a ha).0, (values_of b hb).1) refl

-- and that it is small
pub value_fits : (a b x y n : ℕ) → x ≡ a → y ≡ b → a < 256 → b < 256 → 512 ≤ n
    → slice_index FIRST_VALUES x + slice_index SECOND_VALUES y ≤ n
value_fits a b x y n x_is y_is ha hb h =
    let found = value_found a b x y x_is y_is ha hb in
    let small = value_small a b in
    omega (arith, found, small, h)

both : (a b i : ℕ) (x y : Option ℕ) → hex_digit_value a ≡ x → hex_digit_value b ≡ y → first_of x + second_of y < 256
    → pair_value a b i ≡ Ok (first_of x + second_of y)
both a b i (Some h) (Some l) ea eb lt = rw (ea, eb) (ap Ok (omega arith))
both a b i (Some h) None ea eb lt = absurd (omega arith)
both a b i None y ea eb lt = absurd (omega arith)

not_both : (a b i : ℕ) (x y : Option ℕ) → hex_digit_value a ≡ x → hex_digit_value b ≡ y
    → 256 ≤ first_of x + second_of y → (e : FromHexError) × (pair_value a b i ≡ Err e)
not_both a b i (Some h) (Some l) ea eb ge =
    let high = small a h ea in
    let low = small b l eb in
    absurd (omega (arith, high, low))
not_both a b i (Some h) None ea eb ge = (InvalidHexCharacter b (i + 1), rw (ea, eb) refl)
not_both a b i None y ea eb ge = (InvalidHexCharacter a i, rw ea refl)

-- what the loop that reads keeps: the bytes so far, or that a byte is no digit
pub record HasRead (digits bytes : List ℕ) (i all : ℕ) : Type 0 where
  pub read : all < 256 → decode_pairs 0 digits ≡ prepend (take i bytes) (decode_pairs (2 * i) (drop (2 * i) digits))
  pub refused : 256 ≤ all → (e : FromHexError) × (decode_pairs 0 digits ≡ Err e)

-- two digits more
pub read_step : (digits bytes : List ℕ) (i all value : ℕ) → 2 * i + 1 < length digits → i < length bytes
    → value ≡ digits_value (slice_index digits (2 * i)) (slice_index digits (2 * i + 1))
    → HasRead digits bytes i all → HasRead digits (slice_set bytes i (value % 256)) (i + 1) (bit_or all value)
read_step digits bytes i all value fits room sum h =
    let a = slice_index digits (2 * i) in
    let b = slice_index digits (2 * i + 1) in
    let left = le_or_l all value in
    let right = le_or_r all value in
    record {
      read = λ lt.
          let under : value < 256 = omega (arith, right, lt) in
          let same : value % 256 ≡ value = omega (arith, under) in
          let pair : pair_value a b (2 * i) ≡ Ok value =
          both a b (2 * i) _ _ refl refl (omega (arith, sum, under)) ∙ ap Ok (sym sum) in
          rw same (decode_step digits bytes i value fits room pair (h.read (omega (arith, left, lt))));
      refused = λ ge. elim (cases_lt all 256) [
        | inr before ↦ h.refused before
        | inl under ↦
            elim (cases_lt value 256) [
              | inl fine ↦ let or = or_lt 8 all value under fine in absurd (omega (arith, or, ge))
              | inr over ↦
                  let bad = not_both a b (2 * i) _ _ refl refl (omega (arith, sum, over)) in
                  (bad.0, decode_err digits bytes i bad.0 fits bad.1 (h.read under))
            ]
      ];
    }
