-- The function `digit_run` reads the digits of a base up to the first byte that is no digit, and returns their value.
-- `small_run` reads decimal digits as long as their value is at most 3. `indicator_of` reads `_` and such digits, and
-- returns None if no such digit follows the `_`.
use Rattle.std.proofs.Common.{◌≡◌, ℕ, ◌+◌, ◌*◌, ◌<◌, ◌≤◌, true, false, ◌==◌, ◌&&◌, nat_lt, nat_le, List, []}
use Rattle.std.proofs.Common.{◌∷◌, ◌++◌, length, drop, Option, Some, None, refl, sym, ap, ◌∙◌, inl, inr, subst}
use Rattle.std.proofs.Common.{arith}
use Rattle.std.specs.Char.{digit_value}
use Rattle.std.specs.Str.Parse.{AllDigits, digits_value_after, digits_value}
use Rattle.std.proofs.lemmas.List.{length-append}
use Rattle.std.proofs.lemmas.Bool.{and_parts, cond_both, cond-true, cond-false, cases_Bool, eqb-true, lt-ltb}
use Rattle.std.proofs.lemmas.Bool.{ltb-true, ltb-false, le-leb, lt-leb, leb-true, false≢true}
use Rattle.cbor_tokens.specs.Token.{AreDigits, Indicates}
use Rattle.cbor_tokens.specs.TokenReading.{starts_with_digit, digit_run, small_run, indicator_of}

-- digits that are read, and how reading goes on
pub digit_run-append : (base value : ℕ) (digits rest : List ℕ) → AllDigits base digits
    → digit_run base value (digits ++ rest) ≡ digit_run base (digits_value_after base value digits) rest
digit_run-append base value [] rest all = refl
digit_run-append base value (d ∷ digits) rest all =
    cond-true (nat_lt (digit_value d) base) _ _ (lt-ltb (digit_value d) base all.0)
    ∙ digit_run-append base (value * base + digit_value d) digits rest all.1

-- no digit of this base comes first
pub digit_run-stops : (base value : ℕ) (rest : List ℕ) → starts_with_digit base rest ≡ false
    → digit_run base value rest ≡ (value, rest)
digit_run-stops base value [] stops = refl
digit_run-stops base value (byte ∷ rest) stops = cond-false (nat_lt (digit_value byte) base) _ _ stops

-- the digits that were read, their value, and the rest, which begins with no digit
pub record IsRun (base value : ℕ) (text : List ℕ) (run : ℕ × List ℕ) : Type 0 where
  pub digits : List ℕ
  pub text_is : text ≡ digits ++ run.1
  pub all : AllDigits base digits
  pub value_is : run.0 ≡ digits_value_after base value digits
  pub stops : starts_with_digit base run.1 ≡ false

pub is_run : (base value : ℕ) (text : List ℕ) → IsRun base value text (digit_run base value text)
is_run base value [] = record { digits = []; text_is = refl; all = tt; value_is = refl; stops = refl }
is_run base value (byte ∷ rest) =
    cond_both (nat_lt (digit_value byte) base) _ _ (IsRun base value (byte ∷ rest))
    (λ is. let next = is_run base (value * base + digit_value byte) rest in
    record {
      digits = byte ∷ next.digits;
      text_is = ap (λ (t : List ℕ). byte ∷ t) next.text_is;
      all = (ltb-true (digit_value byte) base is, next.all);
      value_is = next.value_is;
      stops = next.stops;
    })
    (λ no. record { digits = []; text_is = refl; all = tt; value_is = refl; stops = no })

pub length-digit_run : (base value : ℕ) (text : List ℕ) → length (digit_run base value text).1 ≤ length text
length-digit_run base value text =
    let run = is_run base value text in
    omega (arith, ap length run.text_is, length-append run.digits (digit_run base value text).1)

-- more digits make no smaller number
after_ge : (value : ℕ) (digits : List ℕ) → value ≤ digits_value_after 10 value digits
after_ge value [] = omega arith
after_ge value (d ∷ digits) = omega (arith, after_ge (value * 10 + digit_value d) digits)

pub small_run-append : (value : ℕ) (digits rest : List ℕ) → digits_value_after 10 value digits ≤ 3
    → small_run value (digits ++ rest) ≡ small_run (digits_value_after 10 value digits) rest
small_run-append value [] rest small = refl
small_run-append value (d ∷ digits) rest small =
    cond-true (nat_le (value * 10 + digit_value d) 3) _ _
    (le-leb _ 3 (omega (arith, after_ge (value * 10 + digit_value d) digits, small)))
    ∙ small_run-append (value * 10 + digit_value d) digits rest small

pub small_run-stops : (value : ℕ) (rest : List ℕ) → starts_with_digit 10 rest ≡ false
    → small_run value rest ≡ (value, rest)
small_run-stops value [] stops = refl
small_run-stops value (byte ∷ rest) stops =
    let large : 10 ≤ digit_value byte = ltb-false (digit_value byte) 10 stops in
    cond-false (nat_le (value * 10 + digit_value byte) 3) _ _ (lt-leb _ 3 (omega (arith, large)))

-- the digits that were read while their value was at most 3
pub record IsSmallRun (value : ℕ) (text : List ℕ) (run : ℕ × List ℕ) : Type 0 where
  pub digits : List ℕ
  pub text_is : text ≡ digits ++ run.1
  pub all : AllDigits 10 digits
  pub value_is : run.0 ≡ digits_value_after 10 value digits
  pub small : run.0 ≤ 3

pub is_small_run : (value : ℕ) (text : List ℕ) → value ≤ 3 → IsSmallRun value text (small_run value text)
is_small_run value [] few = record { digits = []; text_is = refl; all = tt; value_is = refl; small = few }
is_small_run value (byte ∷ rest) few =
    cond_both (nat_le (value * 10 + digit_value byte) 3) _ _ (IsSmallRun value (byte ∷ rest))
    (λ is. let at_most : value * 10 + digit_value byte ≤ 3 = leb-true _ 3 is in
    let next = is_small_run (value * 10 + digit_value byte) rest at_most in
    record {
      digits = byte ∷ next.digits;
      text_is = ap (λ (t : List ℕ). byte ∷ t) next.text_is;
      all = (omega (arith, at_most), next.all);
      value_is = next.value_is;
      small = next.small;
    })
    (λ no. record { digits = []; text_is = refl; all = tt; value_is = refl; small = few })

pub length-small_run : (value : ℕ) (text : List ℕ) → value ≤ 3 → length (small_run value text).1 ≤ length text
length-small_run value text few =
    let run = is_small_run value text few in
    omega (arith, ap length run.text_is, length-append run.digits (small_run value text).1)

-- an indicator is read, and digits that keep it small
pub indicator_of-append : (text rest : List ℕ) (indicator : ℕ) → Indicates text (Some indicator)
    → indicator_of (text ++ rest) ≡ Some (small_run indicator rest)
indicator_of-append text rest indicator is =
    rw is.1 (read is.0 is.2.0.1 is.2.0.0 (subst (λ (n : ℕ). n ≤ 3) is.2.1 is.3)
    ∙ ap (λ (n : ℕ). Some (small_run n rest)) (sym is.2.1))
  where
    read : (digits : List ℕ) → AllDigits 10 digits → 0 < length digits → digits_value 10 digits ≤ 3
        → indicator_of (95 ∷ (digits ++ rest)) ≡ Some (small_run (digits_value 10 digits) rest)
    read [] all some small = absurd (omega arith)
    read (d ∷ digits) all some small =
        cond-true (nat_lt (digit_value d) 4) _ None
        (lt-ltb (digit_value d) 4 (omega (arith, after_ge (0 * 10 + digit_value d) digits, small)))
        ∙ ap (λ (r : ℕ × List ℕ). Some r) (small_run-append 0 (d ∷ digits) rest small)

-- what is read is an indicator
abbrev SmallDigits : List ℕ → ℕ × List ℕ → Type 0
SmallDigits text run = (digits : List ℕ) × (text ≡ digits ++ run.1) × AreDigits 10 digits run.0 × (run.0 ≤ 3)

some_small : (text : List ℕ) → starts_with_digit 4 text ≡ true → SmallDigits text (small_run 0 text)
some_small [] starts = absurd (false≢true starts)
some_small (d ∷ rest) starts =
    let small : 0 * 10 + digit_value d ≤ 3 = omega (arith, ltb-true (digit_value d) 4 starts) in
    let next = is_small_run (0 * 10 + digit_value d) rest small in
    let step : small_run 0 (d ∷ rest) ≡ small_run (0 * 10 + digit_value d) rest =
    cond-true (nat_le (0 * 10 + digit_value d) 3) _ _ (le-leb _ 3 small) in
    subst (SmallDigits (d ∷ rest)) (sym step) (
      d ∷ next.digits,
      ap (λ (t : List ℕ). d ∷ t) next.text_is,
      (((omega arith, (omega (arith, small), next.all)), next.value_is)),
      next.small,
    )

pub Indicates-indicator_of : (text : List ℕ) (read : ℕ × List ℕ) → indicator_of text ≡ Some read
    → (front : List ℕ) × (text ≡ front ++ read.1) × Indicates front (Some read.0)
Indicates-indicator_of [] read is = cc is
Indicates-indicator_of (byte ∷ rest) read is =
    elim (cases_Bool ((byte == 95) && starts_with_digit 4 rest)) [
      | inl opens ↦
          let parts = and_parts (byte == 95) (starts_with_digit 4 rest) opens in
          let same : ◌≡◌ {A = Option (ℕ × List ℕ)} (Some (small_run 0 rest)) (Some read) =
          sym (cond-true _ (Some (small_run 0 rest)) None opens) ∙ is in
          let run : ◌≡◌ {A = ℕ × List ℕ} (small_run 0 rest) read = cc same in
          let found = subst (SmallDigits rest) run (some_small rest parts.1) in (
            95 ∷ found.0,
            ap (λ (b : ℕ). b ∷ rest) (eqb-true byte 95 parts.0) ∙ ap (λ (t : List ℕ). 95 ∷ t) found.1,
            (found.0, refl, found.2, found.3),
          )
      | inr none ↦ let never : ◌≡◌ {A = Option (ℕ × List ℕ)} None (Some read) =
          sym (cond-false _ (Some (small_run 0 rest)) None none) ∙ is in cc never
    ]

-- no small digit was read, so there is no indicator
none_small : (text : List ℕ) (run : ℕ × List ℕ) → small_run 0 text ≡ run → length run.1 ≡ length text
    → starts_with_digit 4 text ≡ false
none_small [] run is same = refl
none_small (d ∷ rest) run is same =
    elim (cases_Bool (nat_lt (digit_value d) 4)) [
      | inl small ↦
          let few : 0 * 10 + digit_value d ≤ 3 = omega (arith, ltb-true (digit_value d) 4 small) in
          let step : small_run 0 (d ∷ rest) ≡ small_run (0 * 10 + digit_value d) rest =
          cond-true _ _ _ (le-leb _ 3 few) in
          absurd (omega (
            arith,
            length-small_run (0 * 10 + digit_value d) rest few,
            ap (λ (r : ℕ × List ℕ). length r.1) (sym step ∙ is),
            same,
          ))
      | inr large ↦ large
    ]

pub indicator_of-none : (text digits : List ℕ) (value len : ℕ) → text ≡ 95 ∷ digits
    → small_run 0 digits ≡ (value, drop len digits) → len ≡ 0 → indicator_of text ≡ None
indicator_of-none text digits value len is read none = ap indicator_of is
    ∙ cond-false _ (Some (small_run 0 digits)) None (none_small digits (value, drop len digits) read
    (ap (λ (n : ℕ). length (drop n digits)) none))
