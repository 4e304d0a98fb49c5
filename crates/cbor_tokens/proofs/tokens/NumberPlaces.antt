-- For `number_front` and `number_at`: `number_of` returns the number whose digits follow the prefix, with its
-- indicator, and None if no digit follows. A number that is read at a place is the longest there (`IsReadAt`); after
-- None, no number begins there. A text of at most two bytes, or without `0` in front, is decimal.
use Rattle.std.proofs.Common.{◌≡◌, ℕ, ◌+◌, ◌<◌, List, ◌++◌, length, drop, slice_range, Option, Some, None, refl}
use Rattle.std.proofs.Common.{sym, ap, ◌∙◌, inl, inr, subst, arith}
use Rattle.std.proofs.Common.{◌≢◌, ◌≤◌, false, not, ◌==◌, ◌&&◌, [], ◌∷◌}
use Rattle.std.specs.Option.{option_map}
use Rattle.std.proofs.lemmas.List.{length-append, length-drop, drop-drop}
use Rattle.std.proofs.lemmas.Bool.{cond-true, cond-false, cases_Bool, and_parts, cond_both, ne_eqb, false≢true}
use Rattle.cbor_tokens.specs.Token.{Base, decimal_base, hexadecimal_base, octal_base, binary_base}
use Rattle.cbor_tokens.specs.Token.{IsNumber, IsSomeNumber, IsLongest, prefix, radix}
use Rattle.cbor_tokens.specs.TokenReading.{starts_with_digit, base_of, digit_run, indicator_of, with_indicator}
use Rattle.cbor_tokens.specs.TokenReading.{after_run, number_in, number_of}
use Rattle.cbor_tokens.proofs.tokens.NumberRuns.{digit_run-stops, is_run}
use Rattle.cbor_tokens.proofs.tokens.TextPlaces.{part_and_rest, part_is}
use Rattle.cbor_tokens.proofs.tokens.Numbers.{IsNumber-number_of, some_digits, number_of-reaches, longest_number}
use Rattle.cbor_tokens.proofs.tokens.Numbers.{one_number}

-- where no digits were read, there is none
number_in-none : (base : Base) (digits : List ℕ) (value : ℕ) (after : List ℕ)
    → digit_run (radix base) 0 digits ≡ (value, after) → length after ≡ length digits → number_in base digits ≡ None
number_in-none base digits value after run same =
    elim (cases_Bool (starts_with_digit (radix base) digits)) [
      | inl starts ↦
          let one = is_run (radix base) 0 digits in
          absurd (omega (
            arith,
            ap length one.text_is,
            length-append one.digits (digit_run (radix base) 0 digits).1,
            some_digits (radix base) digits (digit_run (radix base) 0 digits) starts one,
            ap (λ (r : ℕ × List ℕ). length r.1) run,
            same,
          ))
      | inr none ↦ cond-false _ (Some (after_run (digit_run (radix base) 0 digits))) None none
    ]

-- and where some were, there is one
number_in-run : (base : Base) (digits : List ℕ) (value : ℕ) (after : List ℕ)
    → digit_run (radix base) 0 digits ≡ (value, after) → length after < length digits
    → number_in base digits ≡ Some (with_indicator value after (indicator_of after))
number_in-run base digits value after run shorter =
    elim (cases_Bool (starts_with_digit (radix base) digits)) [
      | inl starts ↦ cond-true _ (Some (after_run (digit_run (radix base) 0 digits))) None starts
          ∙ ap (λ (r : ℕ × List ℕ). Some (after_run r)) run
      | inr none ↦ absurd (omega (
        arith,
        shorter,
        ap (λ (r : ℕ × List ℕ). length r.1) (sym run ∙ digit_run-stops (radix base) 0 digits none),
      ))
    ]

-- the number of a text is that of the digits behind its prefix
number_of-is : (text digits : List ℕ) (bytes : ℕ) (base : Base) → base ≡ base_of text → bytes ≡ length (prefix base)
    → digits ≡ drop bytes text → number_of text ≡ number_in base digits
number_of-is text digits bytes base base_is bytes_are digits_are = rw (digits_are, bytes_are, base_is) refl

pub number_none : (text digits : List ℕ) (bytes count value : ℕ) (base : Base) → base ≡ base_of text
    → bytes ≡ length (prefix base) → count ≡ radix base → digits ≡ drop bytes text
    → digit_run count 0 digits ≡ (value, digits) → number_of text ≡ None
number_none text digits bytes count value base base_is bytes_are count_is digits_are run =
    number_of-is text digits bytes base base_is bytes_are digits_are
    ∙ number_in-none base digits value digits (rw count_is at run) refl

-- an indicator of this length, and what follows it
abbrev pub followed : List ℕ → ℕ × ℕ → ℕ × List ℕ
followed text next = (next.0, drop next.1 text)

-- the same by its place in the whole text
indicator_place : (text after : List ℕ) (start : ℕ) → after ≡ drop start text → (next : Option (ℕ × ℕ))
    → option_map (followed after) next ≡ option_map (λ x. followed text (x.0, start + x.1)) next
indicator_place text after start is None = refl
indicator_place text after start is (Some next) =
    ap (λ (t : List ℕ). Some (next.0, t)) (ap (drop next.1) is ∙ drop-drop next.1 start text)

-- and the number with it or without
pub number_some : (text digits after : List ℕ) (bytes count len value : ℕ) (base : Base) (next : Option (ℕ × ℕ))
    → base ≡ base_of text → bytes ≡ length (prefix base) → count ≡ radix base → digits ≡ drop bytes text
    → digit_run count 0 digits ≡ (value, drop len digits) → 0 < len → len ≤ length digits → after ≡ drop len digits
    → option_map (followed after) next ≡ indicator_of after → number_of text ≡ Some (with_indicator value
    (drop (bytes + len) text) (option_map (λ x. followed text (x.0, bytes + len + x.1)) next))
number_some text digits after bytes count len value base next base_is bytes_are count_is digits_are run some within is
    gives =
    let place : after ≡ drop (bytes + len) text = is ∙ (ap (drop len) digits_are ∙ drop-drop len bytes text) in
    number_of-is text digits bytes base base_is bytes_are digits_are
    ∙ (number_in-run base digits value after (rw (count_is, ← is) at run)
    (omega (arith, ap length is, length-drop len digits, some, within))
    ∙ ap (λ (o : Option (ℕ × List ℕ)). Some (with_indicator value after o))
    (sym gives ∙ indicator_place text after (bytes + len) place next)
    ∙ ap (λ (t : List ℕ). Some (with_indicator value t
    (option_map (λ x. followed text (x.0, bytes + len + x.1)) next))) place)

-- the number that is read, by its places
pub record IsReadAt (text : List ℕ) (at end value : ℕ) (indicator : Option ℕ) : Type 0 where
  pub is : IsNumber (slice_range text at end) value indicator
  pub longest : IsLongest IsSomeNumber (slice_range text at end) (drop end text)
  pub only : (other : ℕ) (another : Option ℕ) → IsNumber (slice_range text at end) other another
      → (value ≡ other) × (indicator ≡ another)

pub read_at : (text rest : List ℕ) (at len value : ℕ) (indicator : Option ℕ) → rest ≡ drop at text
    → number_of rest ≡ Some (value, indicator, drop len rest) → IsReadAt text at (at + len) value indicator
read_at text rest at len value indicator is_rest found =
    let end = at + len in
    let read : number_of (drop at text) ≡ Some (value, indicator, drop end text) = sym (ap number_of is_rest)
    ∙ (found ∙ ap (λ (t : List ℕ). Some (value, indicator, t)) (ap (drop len) is_rest ∙ drop-drop len at text)) in
    let number = IsNumber-number_of (drop at text) (value, indicator, drop end text) read in
    let same = part_is text number.0 at end (omega arith) number.1 in
    let is = subst (λ (t : List ℕ). IsNumber t value indicator) (sym same) number.2 in
    record {
      is = is;
      longest = longest_number (slice_range text at end) (drop end text) value indicator is
          (ap number_of (sym (part_and_rest text at end (omega arith))) ∙ read);
      only = λ other another is_too. one_number (slice_range text at end) value other indicator another is is_too;
    }

-- or none begins there
pub none_at : (text : List ℕ) → number_of text ≡ None → (front rest : List ℕ) → text ≡ front ++ rest
    → IsSomeNumber front → ⊥
none_at text none front rest is some =
    let reached = number_of-reaches front rest some.0 some.1 some.2 in
    let never : ◌≡◌ {A = Option (ℕ × Option ℕ × List ℕ)} None (Some reached.0) = sym none
    ∙ (ap number_of is ∙ reached.1) in
    cc never

-- a text of two bytes has no prefix and digit
pub base_of-short : (text : List ℕ) → length text ≤ 2 → base_of text ≡ decimal_base
base_of-short [] short = refl
base_of-short (first ∷ []) short = refl
base_of-short (first ∷ letter ∷ next ∷ rest) short = absurd (omega arith)
base_of-short (first ∷ letter ∷ []) short =
    cond_both (not (first == 48)) decimal_base _ (λ b. b ≡ decimal_base) (λ _. refl)
    (λ _. cond_both ((letter == 120) && false) hexadecimal_base _ (λ b. b ≡ decimal_base)
    (λ is. absurd (false≢true (and_parts _ _ is).1))
    (λ _. cond_both ((letter == 111) && false) octal_base _ (λ b. b ≡ decimal_base)
    (λ is. absurd (false≢true (and_parts _ _ is).1))
    (λ _. cond_both ((letter == 98) && false) binary_base decimal_base (λ b. b ≡ decimal_base)
    (λ is. absurd (false≢true (and_parts _ _ is).1)) (λ _. refl))))

pub base_of-other : (first : ℕ) (rest : List ℕ) → first ≢ 48 → base_of (first ∷ rest) ≡ decimal_base
base_of-other first [] other = refl
base_of-other first (letter ∷ rest) other = rw (ne_eqb first 48 other) refl
