-- The function `number_of` returns the longest number at the front of a text (`IsNumber`, `IsLongest`), if a number is
-- there. A text is a number with only one value and one indicator.
use Rattle.std.proofs.Common.{◌≡◌, ◌≢◌, ◌⊎◌, ℕ, ◌<◌, ◌≤◌, true, false, not, ◌==◌, ◌&&◌, nat_lt, List, [], ◌∷◌, ◌++◌}
use Rattle.std.proofs.Common.{length, drop, Option, Some, None, refl, sym, ap, ◌∙◌, inl, inr, subst, arith}
use Rattle.std.specs.Char.{digit_value}
use Rattle.std.specs.Str.Parse.{AllDigits}
use Rattle.std.proofs.lemmas.List.{length-append, append_assoc}
use Rattle.std.proofs.lemmas.Bool.{and_parts, cond_both, cond-true, cond-false, cases_Bool, eqb-true, ne_eqb, lt-ltb}
use Rattle.std.proofs.lemmas.Bool.{le-ltb, not-false, false≢true}
use Rattle.cbor_tokens.specs.Token.{Base}
use Rattle.cbor_tokens.specs.Token.{decimal_base, hexadecimal_base, octal_base, binary_base}
use Rattle.cbor_tokens.specs.Token.{AreDigits, Indicates, IsNumber, IsSomeNumber, IsLongest, prefix, radix}
use Rattle.cbor_tokens.specs.TokenReading.{starts_with_digit, base_of, digit_run, indicator_of, with_indicator}
use Rattle.cbor_tokens.specs.TokenReading.{after_run, number_in, number_of}
use Rattle.cbor_tokens.proofs.tokens.NumberRuns.{digit_run-append, digit_run-stops, IsRun, is_run, length-digit_run}
use Rattle.cbor_tokens.proofs.tokens.NumberRuns.{small_run-stops, length-small_run, indicator_of-append}
use Rattle.cbor_tokens.proofs.tokens.NumberRuns.{Indicates-indicator_of}
use Rattle.cbor_tokens.proofs.tokens.Longest.{one_longest}

-- the prefix of this base begins the text, and a digit of this base follows it
abbrev Begins : List ℕ → Base → Type 0
Begins text base = (text ≡ prefix base ++ drop (length (prefix base)) text)
    × ((base ≡ decimal_base) ⊎ (starts_with_digit (radix base) (drop (length (prefix base)) text) ≡ true))

begins_decimal : (text : List ℕ) → Begins text decimal_base
begins_decimal text = (refl, inl refl)

begins : (text : List ℕ) → Begins text (base_of text)
begins [] = begins_decimal []
begins (first ∷ []) = begins_decimal (first ∷ [])
begins (first ∷ letter ∷ rest) =
    cond_both (not (first == 48)) decimal_base _ (Begins text)
    (λ _. begins_decimal text)
    (λ zero_first.
    let first_is : first ≡ 48 = eqb-true first 48 (not-false _ zero_first) in
    cond_both ((letter == 120) && starts_with_digit 16 rest) hexadecimal_base _ (Begins text)
    (λ is. let parts = and_parts _ _ is in (
      both first letter 48 120 rest first_is (eqb-true letter 120 parts.0),
      inr parts.1,
    ))
    (λ _. cond_both ((letter == 111) && starts_with_digit 8 rest) octal_base _ (Begins text)
    (λ is. let parts = and_parts _ _ is in (
      both first letter 48 111 rest first_is (eqb-true letter 111 parts.0),
      inr parts.1,
    ))
    (λ _. cond_both ((letter == 98) && starts_with_digit 2 rest) binary_base decimal_base (Begins text)
    (λ is. let parts = and_parts _ _ is in (
      both first letter 48 98 rest first_is (eqb-true letter 98 parts.0),
      inr parts.1,
    ))
    (λ _. begins_decimal text))))
  where
    text : List ℕ
    text = first ∷ letter ∷ rest

    both : (a b c d : ℕ) (t : List ℕ) → a ≡ c → b ≡ d → ◌≡◌ {A = List ℕ} (a ∷ b ∷ t) (c ∷ d ∷ t)
    both a b c d t e f = cc (e, f)

-- no prefix has such a second byte
base_of-decimal : (first letter : ℕ) (rest : List ℕ) → (digit_value letter < 10) ⊎ (36 ≤ digit_value letter)
    → base_of (first ∷ letter ∷ rest) ≡ decimal_base
base_of-decimal first letter rest other =
    cond_both (not (first == 48)) decimal_base _ (λ b. b ≡ decimal_base) (λ _. refl)
    (λ _. rw (
      ne_eqb letter 120 (apart 120 33 refl (omega arith) (omega arith)),
      ne_eqb letter 111 (apart 111 24 refl (omega arith) (omega arith)),
      ne_eqb letter 98 (apart 98 11 refl (omega arith) (omega arith)),
    ) refl)
  where
    apart : (letter_of_prefix value : ℕ) → digit_value letter_of_prefix ≡ value → 10 ≤ value → value < 36
        → letter ≢ letter_of_prefix
    apart p value is low high same = elim other [
      | inl small ↦ absurd (omega (arith, ap digit_value same, is, small))
      | inr large ↦ absurd
          (omega (arith, ap digit_value same, is, large))
    ]

-- a prefix and a digit of its base
base_of-prefixed : (base : Base) (d : ℕ) (rest : List ℕ) → digit_value d < radix base → base ≢ decimal_base
    → base_of (prefix base ++ d ∷ rest) ≡ base
base_of-prefixed decimal_base d rest is other = absurd (other refl)
base_of-prefixed hexadecimal_base d rest is other =
    cond-true (nat_lt (digit_value d) 16) _ _ (lt-ltb (digit_value d) 16 is)
base_of-prefixed octal_base d rest is other = cond-true (nat_lt (digit_value d) 8) _ _ (lt-ltb (digit_value d) 8 is)
base_of-prefixed binary_base d rest is other = cond-true (nat_lt (digit_value d) 2) _ _ (lt-ltb (digit_value d) 2 is)

drop-prefix : (base : Base) (rest : List ℕ) → drop (length (prefix base)) (prefix base ++ rest) ≡ rest
drop-prefix decimal_base rest = refl
drop-prefix hexadecimal_base rest = refl
drop-prefix octal_base rest = refl
drop-prefix binary_base rest = refl

number_of-prefixed : (base : Base) (rest : List ℕ) → base_of (prefix base ++ rest) ≡ base
    → number_of (prefix base ++ rest) ≡ number_in base rest
number_of-prefixed base rest is = ap (λ (b : Base). number_in b (drop (length (prefix b)) (prefix base ++ rest))) is
    ∙ ap (number_in base) (drop-prefix base rest)

-- `_` is no digit
no_digit : (base : Base) (rest : List ℕ) → starts_with_digit (radix base) (95 ∷ rest) ≡ false
no_digit decimal_base rest = refl
no_digit hexadecimal_base rest = refl
no_digit octal_base rest = refl
no_digit binary_base rest = refl

radix_small : (base : Base) → radix base ≤ 36
radix_small decimal_base = omega arith
radix_small hexadecimal_base = omega arith
radix_small octal_base = omega arith
radix_small binary_base = omega arith

-- digits of a base are read
number_in-digits : (base : Base) (digits rest : List ℕ) (value : ℕ) → AreDigits (radix base) digits value
    → number_in base (digits ++ rest) ≡ Some (after_run (digit_run (radix base) value rest))
number_in-digits base [] rest value is = absurd (omega (arith, is.0.0))
number_in-digits base (d ∷ digits) rest value is =
    cond-true (nat_lt (digit_value d) (radix base)) _ None (lt-ltb (digit_value d) (radix base) is.0.1.0)
    ∙ ap (λ (run : ℕ × List ℕ). Some (after_run run)) (digit_run-append (radix base) 0 (d ∷ digits) rest is.0.1
    ∙ ap (λ (n : ℕ). digit_run (radix base) n rest) (sym is.1))

-- what an indicator leaves
pub record IsAfter (run : ℕ × List ℕ) (read : ℕ × Option ℕ × List ℕ) : Type 0 where
  pub after : List ℕ
  pub rest_is : run.1 ≡ after ++ read.2
  pub indicator_is : Indicates after read.1
  pub value_is : read.0 ≡ run.0

after_with : (value : ℕ) (rest : List ℕ) (indicator : Option (ℕ × List ℕ)) → indicator_of rest ≡ indicator
    → IsAfter (value, rest) (with_indicator value rest indicator)
after_with value rest None is = record { after = []; rest_is = refl; indicator_is = refl; value_is = refl }
after_with value rest (Some read) is =
    let found = Indicates-indicator_of rest read is in
    record { after = found.0; rest_is = found.1; indicator_is = found.2; value_is = refl }

is_after : (run : ℕ × List ℕ) → IsAfter run (after_run run)
is_after run = after_with run.0 run.1 (indicator_of run.1) refl

-- what is read in a base is digits of it and an indicator or none
pub record IsIn (base : Base) (text : List ℕ) (read : ℕ × Option ℕ × List ℕ) : Type 0 where
  pub digits : List ℕ
  pub after : List ℕ
  pub text_is : text ≡ (digits ++ after) ++ read.2
  pub digits_are : AreDigits (radix base) digits read.0
  pub after_is : Indicates after read.1

pub some_digits : (base : ℕ) (text : List ℕ) (run : ℕ × List ℕ) → starts_with_digit base text ≡ true
    → (is : IsRun base 0 text run) → 0 < length is.digits
some_digits base text run starts is = digits_first is.digits is.text_is
  where
    digits_first : (digits : List ℕ) → text ≡ digits ++ run.1 → 0 < length digits
    digits_first [] same = absurd (false≢true (sym is.stops ∙ (ap (starts_with_digit base) (sym same) ∙ starts)))
    digits_first (d ∷ digits) same = omega arith

in_run : (base : Base) (text : List ℕ) (run : ℕ × List ℕ) → starts_with_digit (radix base) text ≡ true
    → IsRun (radix base) 0 text run → IsIn base text (after_run run)
in_run base text run starts is =
    let next = is_after run in
    record {
      digits = is.digits;
      after = next.after;
      text_is = is.text_is ∙ (ap (λ (t : List ℕ). is.digits ++ t) next.rest_is
          ∙ sym (append_assoc is.digits next.after (after_run run).2));
      digits_are = ((some_digits (radix base) text run starts is, is.all), next.value_is ∙ is.value_is);
      after_is = next.indicator_is;
    }

from_number_in : (base : Base) (text : List ℕ) (read : ℕ × Option ℕ × List ℕ) → number_in base text ≡ Some read
    → IsIn base text read
from_number_in base text read is =
    elim (cases_Bool (starts_with_digit (radix base) text)) [
      | inl starts ↦
          let run = digit_run (radix base) 0 text in
          let same : ◌≡◌ {A = Option (ℕ × Option ℕ × List ℕ)} (Some (after_run run)) (Some read) =
          sym (cond-true _ (Some (after_run run)) None starts) ∙ is in
          let one : ◌≡◌ {A = ℕ × Option ℕ × List ℕ} (after_run run) read = cc same in
          subst (IsIn base text) one (in_run base text run starts (is_run (radix base) 0 text))
      | inr none ↦
          let never : ◌≡◌ {A = Option (ℕ × Option ℕ × List ℕ)} None (Some read) =
          sym (cond-false _ (Some (after_run (digit_run (radix base) 0 text))) None none) ∙ is in cc never
    ]

-- what is read is a number
pub IsNumber-number_of : (text : List ℕ) (read : ℕ × Option ℕ × List ℕ) → number_of text ≡ Some read
    → (front : List ℕ) × (text ≡ front ++ read.2) × IsNumber front read.0 read.1
IsNumber-number_of text read is =
    let base = base_of text in
    let found = from_number_in base (drop (length (prefix base)) text) read is in (
      prefix base ++ (found.digits ++ found.after),
      (begins text).0 ∙ (ap (λ (t : List ℕ). prefix base ++ t) found.text_is
          ∙ sym (append_assoc (prefix base) (found.digits ++ found.after) read.2)),
      record {
        base = base;
        digits = found.digits;
        after = found.after;
        text_is = refl;
        digits_are =
            found.digits_are;
        after_is = found.after_is;
      },
    )

-- at a decimal digit a number is read
some_number : (text : List ℕ) → starts_with_digit 10 text ≡ true
    → (read : ℕ × Option ℕ × List ℕ) × (number_of text ≡ Some read)
some_number text starts =
    let base = base_of text in
    let digits = drop (length (prefix base)) text in
    let first : starts_with_digit (radix base) digits ≡ true = elim (begins text).1 [
      | inl decimal ↦ ap (λ (b : Base). starts_with_digit (radix b) (drop (length (prefix b)) text)) decimal ∙ starts
      | inr is ↦ is
    ] in (
      after_run (digit_run (radix base) 0 digits),
      cond-true _ (Some (after_run (digit_run (radix base) 0 digits))) None
          first,
    )

-- What no number goes on with: nothing, or a byte that is neither a letter, a decimal digit nor `_`.
abbrev pub EndsNumber : List ℕ → Type 0
EndsNumber [] = Unit {0}
EndsNumber (byte ∷ rest) = (36 ≤ digit_value byte) × (byte ≢ 95)

ends_digits : (base : ℕ) (rest : List ℕ) → base ≤ 36 → EndsNumber rest → starts_with_digit base rest ≡ false
ends_digits base [] small ends = refl
ends_digits base (byte ∷ rest) small ends = le-ltb (digit_value byte) base (omega (arith, ends.0))

no_indicator : (rest : List ℕ) → EndsNumber rest → indicator_of rest ≡ None
no_indicator [] ends = refl
no_indicator (byte ∷ rest) ends = rw (ne_eqb byte 95 ends.1) refl

length-after_run : (run : ℕ × List ℕ) → length (after_run run).2 ≤ length run.1
length-after_run run = let is = is_after run in omega
    (arith, ap length is.rest_is, length-append is.after (after_run run).2)

-- what follows the digits is read whole where no number goes on after it
after_whole : (base : Base) (value : ℕ) (after rest : List ℕ) (indicator : Option ℕ) → Indicates after indicator
    → EndsNumber rest → after_run (digit_run (radix base) value (after ++ rest)) ≡ (value, indicator, rest)
after_whole base value after rest None is ends =
    ap (λ (t : List ℕ). after_run (digit_run (radix base) value (t ++ rest))) is
    ∙ (ap after_run (digit_run-stops (radix base) value rest (ends_digits (radix base) rest (radix_small base) ends))
    ∙ ap (with_indicator value rest) (no_indicator rest ends))
after_whole base value after rest (Some indicator) is ends =
    let stops = ap (λ (t : List ℕ). starts_with_digit (radix base) (t ++ rest)) is.1 ∙ no_digit base (is.0 ++ rest) in
    ap after_run (digit_run-stops (radix base) value (after ++ rest) stops)
    ∙ (ap (with_indicator value (after ++ rest)) (indicator_of-append after rest indicator is)
    ∙ ap (λ (read : ℕ × List ℕ). with_indicator value (after ++ rest) (Some read))
    (small_run-stops indicator rest (ends_digits 10 rest (omega arith) ends)))

-- and as far as it goes in any case
after_reaches : (base : Base) (value : ℕ) (after rest : List ℕ) (indicator : Option ℕ) → Indicates after indicator
    → length (after_run (digit_run (radix base) value (after ++ rest))).2 ≤ length rest
after_reaches base value after rest None is =
    let run = digit_run (radix base) value rest in
    subst (λ (t : List ℕ). length (after_run (digit_run (radix base) value (t ++ rest))).2 ≤ length rest) (sym is)
    (omega (arith, length-after_run run, length-digit_run (radix base) value rest))
after_reaches base value after rest (Some indicator) is =
    let stops = ap (λ (t : List ℕ). starts_with_digit (radix base) (t ++ rest)) is.1 ∙ no_digit base (is.0 ++ rest) in
    let read = ap after_run (digit_run-stops (radix base) value (after ++ rest) stops)
    ∙ ap (with_indicator value (after ++ rest)) (indicator_of-append after rest indicator is) in
    omega (arith, ap (λ (r : ℕ × Option ℕ × List ℕ). length r.2) read, length-small_run indicator rest is.3)

-- the base of a number with a prefix, and of one that goes on after its first digit
same_base : (base : Base) (digits rest : List ℕ) (value : ℕ) → AreDigits (radix base) digits value → base ≢ decimal_base
    → number_of (prefix base ++ (digits ++ rest)) ≡ number_in base (digits ++ rest)
same_base base [] rest value is other = absurd (omega (arith, is.0.0))
same_base base (d ∷ digits) rest value is other =
    number_of-prefixed base (d ∷ (digits ++ rest)) (base_of-prefixed base d (digits ++ rest) is.0.1.0 other)

abbrev GoesOn : List ℕ → Type 0
GoesOn [] = Unit {0}
GoesOn (letter ∷ rest) = (digit_value letter < 10) ⊎ (36 ≤ digit_value letter)

decimal_goes_on : (d : ℕ) (rest : List ℕ) → GoesOn rest → number_of (d ∷ rest) ≡ number_in decimal_base (d ∷ rest)
decimal_goes_on d [] on = refl
decimal_goes_on d (letter ∷ rest) on =
    number_of-prefixed decimal_base (d ∷ letter ∷ rest) (base_of-decimal d letter rest on)

-- a number is not empty
pub length-IsNumber : (text : List ℕ) (value : ℕ) (indicator : Option ℕ) → IsNumber text value indicator
    → 0 < length text
length-IsNumber text value indicator is =
    omega (
      arith,
      ap length is.text_is,
      length-append (prefix is.base) (is.digits ++ is.after),
      length-append is.digits is.after,
      is.digits_are.0.0,
    )

joined : (front rest : List ℕ) (value : ℕ) (indicator : Option ℕ) → (is : IsNumber front value indicator)
    → front ++ rest ≡ prefix is.base ++ (is.digits ++ (is.after ++ rest))
joined front rest value indicator is =
    ap (λ (t : List ℕ). t ++ rest) is.text_is
    ∙ (append_assoc (prefix is.base) (is.digits ++ is.after) rest
    ∙ ap (λ (t : List ℕ). prefix is.base ++ t) (append_assoc is.digits is.after rest))

-- a decimal number goes on with a digit or a `_`, or ends
goes_on : (digits after rest : List ℕ) (value : ℕ) (indicator : Option ℕ) → AllDigits 10 digits
    → Indicates after indicator → EndsNumber rest → GoesOn (digits ++ (after ++ rest))
goes_on (d ∷ digits) after rest value indicator all is ends = inl all.0
goes_on [] after rest value (Some indicator) all is ends =
    subst (λ (t : List ℕ). GoesOn (t ++ rest)) (sym is.1) (inr (omega arith))
goes_on [] after [] value None all is ends = subst (λ (t : List ℕ). GoesOn (t ++ [])) (sym is) tt
goes_on [] after (byte ∷ rest) value None all is ends =
    subst (λ (t : List ℕ). GoesOn (t ++ byte ∷ rest)) (sym is) (inr ends.0)

in_base : (base : Base) (digits after rest : List ℕ) (value : ℕ) (indicator : Option ℕ)
    → AreDigits (radix base) digits value → Indicates after indicator → EndsNumber rest
    → number_of (prefix base ++ (digits ++ (after ++ rest))) ≡ number_in base (digits ++ (after ++ rest))
in_base decimal_base [] after rest value indicator digits_are is ends = absurd (omega (arith, digits_are.0.0))
in_base decimal_base (d ∷ digits) after rest value indicator digits_are is ends =
    decimal_goes_on d (digits ++ (after ++ rest)) (goes_on digits after rest value indicator digits_are.0.1.1 is ends)
in_base hexadecimal_base digits after rest value indicator digits_are is ends =
    same_base hexadecimal_base digits (after ++ rest) value digits_are (λ same. cc same)
in_base octal_base digits after rest value indicator digits_are is ends =
    same_base octal_base digits (after ++ rest) value digits_are (λ same. cc same)
in_base binary_base digits after rest value indicator digits_are is ends =
    same_base binary_base digits (after ++ rest) value digits_are (λ same. cc same)

-- a number is read whole where no number goes on after it
pub number_of-append : (front rest : List ℕ) (value : ℕ) (indicator : Option ℕ) → IsNumber front value indicator
    → EndsNumber rest → number_of (front ++ rest) ≡ Some (value, indicator, rest)
number_of-append front rest value indicator is ends =
    ap number_of (joined front rest value indicator is)
    ∙ (in_base is.base is.digits is.after rest value indicator is.digits_are is.after_is ends
    ∙ (number_in-digits is.base is.digits (is.after ++ rest) value is.digits_are
    ∙ ap (λ (read : ℕ × Option ℕ × List ℕ). Some read)
    (after_whole is.base value is.after rest indicator is.after_is ends)))

-- what is read of a text reaches at least so far
abbrev Reaches : List ℕ → List ℕ → Type 0
Reaches text rest = (read : ℕ × Option ℕ × List ℕ) × (number_of text ≡ Some read) × (length read.2 ≤ length rest)

reaches_in : (base : Base) (digits after rest : List ℕ) (value : ℕ) (indicator : Option ℕ)
    → AreDigits (radix base) digits value → Indicates after indicator
    → number_of (prefix base ++ (digits ++ (after ++ rest))) ≡ number_in base (digits ++ (after ++ rest))
    → Reaches (prefix base ++ (digits ++ (after ++ rest))) rest
reaches_in base digits after rest value indicator digits_are is same = (
  after_run (digit_run (radix base) value (after ++ rest)),
  same
      ∙ number_in-digits base digits (after ++ rest) value digits_are,
  after_reaches base value after rest indicator is,
)

reaches_digit : (d : ℕ) (rest : List ℕ) → digit_value d < 10 → Reaches (d ∷ rest) rest
reaches_digit d rest small =
    let read = some_number (d ∷ rest) (lt-ltb (digit_value d) 10 small) in
    let found = IsNumber-number_of (d ∷ rest) read.0 read.1 in (
      read.0,
      read.1,
      omega (
        arith,
        ap length found.1,
        length-append found.0 read.0.2,
        length-IsNumber found.0 read.0.0 read.0.1 found.2,
      ),
    )

reaches_decimal : (digits after rest : List ℕ) (value : ℕ) (indicator : Option ℕ) → AreDigits 10 digits value
    → Indicates after indicator → Reaches (digits ++ (after ++ rest)) rest
reaches_decimal [] after rest value indicator digits_are is = absurd (omega (arith, digits_are.0.0))
reaches_decimal (d ∷ e ∷ digits) after rest value indicator digits_are is =
    reaches_in decimal_base (d ∷ e ∷ digits) after rest value indicator digits_are is
    (decimal_goes_on d (e ∷ (digits ++ (after ++ rest))) (inl digits_are.0.1.1.0))
reaches_decimal (d ∷ []) after rest value (Some indicator) digits_are is =
    reaches_in decimal_base (d ∷ []) after rest value (Some indicator) digits_are is
    (decimal_goes_on d (after ++ rest) (subst (λ (t : List ℕ). GoesOn (t ++ rest)) (sym is.1) (inr (omega arith))))
reaches_decimal (d ∷ []) after rest value None digits_are is =
    subst (λ (t : List ℕ). Reaches (d ∷ (t ++ rest)) rest) (sym is) (reaches_digit d rest digits_are.0.1.0)

reaches : (base : Base) (digits after rest : List ℕ) (value : ℕ) (indicator : Option ℕ)
    → AreDigits (radix base) digits value → Indicates after indicator
    → Reaches (prefix base ++ (digits ++ (after ++ rest))) rest
reaches decimal_base digits after rest value indicator digits_are is =
    reaches_decimal digits after rest value indicator digits_are is
reaches hexadecimal_base digits after rest value indicator digits_are is =
    reaches_in hexadecimal_base digits after rest value indicator digits_are is
    (same_base hexadecimal_base digits (after ++ rest) value digits_are (λ same. cc same))
reaches octal_base digits after rest value indicator digits_are is =
    reaches_in octal_base digits after rest value indicator digits_are is
    (same_base octal_base digits (after ++ rest) value digits_are (λ same. cc same))
reaches binary_base digits after rest value indicator digits_are is =
    reaches_in binary_base digits after rest value indicator digits_are is
    (same_base binary_base digits (after ++ rest) value digits_are (λ same. cc same))

-- reading reaches at least to the end of any number that begins the text
pub number_of-reaches : (front rest : List ℕ) (value : ℕ) (indicator : Option ℕ) → IsNumber front value indicator
    → (read : ℕ × Option ℕ × List ℕ) × (number_of (front ++ rest) ≡ Some read) × (length read.2 ≤ length rest)
number_of-reaches front rest value indicator is =
    subst (λ (t : List ℕ). Reaches t rest) (sym (joined front rest value indicator is))
    (reaches is.base is.digits is.after rest value indicator is.digits_are is.after_is)

-- so what is read is the longest number
pub longest_number : (front rest : List ℕ) (value : ℕ) (indicator : Option ℕ) → IsNumber front value indicator
    → number_of (front ++ rest) ≡ Some (value, indicator, rest) → IsLongest IsSomeNumber front rest
longest_number front rest value indicator is read = record {
  is = (value, indicator, is);
  no_longer = λ other after same some.
      let reached = number_of-reaches other after some.0 some.1 some.2 in
      let both : ◌≡◌ {A = Option (ℕ × Option ℕ × List ℕ)} (Some (value, indicator, rest)) (Some reached.0) = sym read
      ∙ (ap number_of same ∙ reached.1) in
      let one : ◌≡◌ {A = ℕ × Option ℕ × List ℕ} (value, indicator, rest) reached.0 = cc both in
      omega (
        arith,
        ap length same,
        length-append front rest,
        length-append other after,
        ap (λ (r : ℕ × Option ℕ × List ℕ). length r.2) one,
        reached.2,
      );
}

-- a text is a number of one value and one indicator
pub one_number : (text : List ℕ) (value other : ℕ) (indicator another : Option ℕ) → IsNumber text value indicator
    → IsNumber text other another → (value ≡ other) × (indicator ≡ another)
one_number text value other indicator another is is_too =
    let both : ◌≡◌ {A = Option (ℕ × Option ℕ × List ℕ)} (Some (value, indicator, [])) (Some (other, another, [])) =
    sym (number_of-append text [] value indicator is tt) ∙ number_of-append text [] other another is_too tt in
    let one : ◌≡◌ {A = ℕ × Option ℕ × List ℕ} (value, indicator, []) (other, another, []) = cc both in
    (ap (λ (r : ℕ × Option ℕ × List ℕ). r.0) one, ap (λ (r : ℕ × Option ℕ × List ℕ). r.1) one)

-- whatever is the longest number is read
pub number_of-longest : (front rest : List ℕ) (value : ℕ) (indicator : Option ℕ) → IsNumber front value indicator
    → IsLongest IsSomeNumber front rest → number_of (front ++ rest) ≡ Some (value, indicator, rest)
number_of-longest front rest value indicator is longest =
    let reached = number_of-reaches front rest value indicator is in
    let read = reached.0 in
    let found = IsNumber-number_of (front ++ rest) read reached.1 in
    let here = longest_number found.0 read.2 read.0 read.1 found.2 (ap number_of (sym found.1) ∙ reached.1) in
    let one = one_longest IsSomeNumber front rest found.0 read.2 found.1 longest here in
    let same = one_number front value read.0 indicator read.1 is
    (subst (λ (t : List ℕ). IsNumber t read.0 read.1) (sym one.0) found.2) in
    reached.1 ∙ all_same read same.0 same.1 one.1
  where
    all_same : (read : ℕ × Option ℕ × List ℕ) → value ≡ read.0 → indicator ≡ read.1 → rest ≡ read.2
        → ◌≡◌ {A = Option (ℕ × Option ℕ × List ℕ)} (Some read) (Some (value, indicator, rest))
    all_same read a b c = rw (a, b, c) refl
