-- The digits of `in_groups`, if there is one, are in groups of three with commas between them; only the first group may
-- be shorter (`IsGrouped`). So `grouped` has the digits of a number below 2 ^ 128 in such groups.
use Rattle.std.proofs.Common.{◌≡◌, ◌≢◌, ℕ, ◌+◌, ◌*◌, ◌%◌, ◌^◌, ◌<◌, Bool, List, [], ◌∷◌, ◌++◌, length, refl, ap, ◌∙◌}
use Rattle.std.proofs.Common.{arith, inl, inr, eq-eqb, decimal}
use Rattle.std.specs.List.{AllByRecursion, concat}
use Rattle.std.proofs.lemmas.List.{length-append}
use Rattle.itoa.proofs.Decimal.{length_one, length_step_wide}
use Rattle.std.proofs.lemmas.Bool.{cases_lt, lt-ltb, ne_eqb}
use Rattle.cbor_notes.specs.Text.{comma_before, in_groups, IsGrouped, grouped, IsGroupedNumber}

joined_length : (groups : List (List ℕ)) → AllByRecursion (λ g. length g ≡ 3) groups
    → length (concat groups) ≡ 3 * length groups
joined_length [] h = refl
joined_length (g ∷ gs) h = omega (arith, length-append g (concat gs), joined_length gs h.1, h.0)

no_comma : (digits : List ℕ) → length digits % 3 ≢ 0 → comma_before digits ≡ []
no_comma [] h = refl
no_comma (d ∷ ds) h = rw (lt-ltb 0 (length (d ∷ ds)) (omega arith), ne_eqb (length (d ∷ ds) % 3) 0 h) refl

comma : (d : ℕ) (ds : List ℕ) → length (d ∷ ds) % 3 ≡ 0 → comma_before (d ∷ ds) ≡ 44 ∷ []
comma d ds h = rw (lt-ltb 0 (length (d ∷ ds)) (omega arith), eq-eqb (length (d ∷ ds) % 3) 0 h) refl

pub is_grouped : (digits : List ℕ) → 0 < length digits → IsGrouped digits (in_groups digits)
is_grouped [] h = absurd (omega arith)
is_grouped (digit ∷ []) h = record {
  first = digit ∷ [];
  others = [];
  some = omega arith;
  short =
      omega arith;
  of_three = tt;
  digits_are = refl;
  text_is = refl;
}
is_grouped (digit ∷ d ∷ ds) h =
    let g = is_grouped (d ∷ ds) (omega arith) in
    let count : length (d ∷ ds) ≡ length g.first + 3 * length g.others = ap length g.digits_are
    ∙ length-append g.first (concat g.others) ∙ ap (λ n. length g.first + n) (joined_length g.others g.of_three) in
    elim (cases_lt (length g.first) 3) [
      | inl few ↦
          let uneven : length (d ∷ ds) % 3 ≢ 0 = λ e. omega (arith, g.some) in
          record {
            first = digit ∷ g.first;
            others = g.others;
            some = omega arith;
            short = omega arith;
            of_three = g.of_three;
            digits_are = ap (λ x. digit ∷ x) g.digits_are;
            text_is = ap (λ x. (digit ∷ x) ++ in_groups (d ∷ ds)) (no_comma (d ∷ ds) uneven)
                ∙ ap (λ x. digit ∷ x) g.text_is;
          }
      | inr full ↦
          let even : length (d ∷ ds) % 3 ≡ 0 = omega (arith, g.short) in
          record {
            first = digit ∷ [];
            others = g.first ∷ g.others;
            some = omega arith;
            short = omega arith;
            of_three = (omega (arith, g.short), g.of_three);
            digits_are = ap (λ x. digit ∷ x) g.digits_are;
            text_is = ap (λ x. (digit ∷ x) ++ in_groups (d ∷ ds)) (comma d ds even)
                ∙ ap (λ x. digit ∷ 44 ∷ x) g.text_is;
          }
    ]

-- a number has a digit
decimal_some : (n : ℕ) → n < 2 ^ 128 → 0 < length (decimal n)
decimal_some n fits =
    elim (cases_lt n 10) [
      | inl one ↦ omega (arith, length_one n one)
      | inr more ↦ omega (arith, length_step_wide n more fits)
    ]

pub number_is_grouped : (n : ℕ) (negative : Bool) (text : List ℕ) → n < 2 ^ 128 → text ≡ grouped n negative
    → IsGroupedNumber n negative text
number_is_grouped n negative text fits is = (in_groups (decimal n), is_grouped (decimal n) (decimal_some n fits), is)
