-- The texts that JSON has for the integers of CBOR (`integer_text`, `negative_text`), finite floats and big numbers are
-- numbers by the grammar of JSON (`IsNumber`).
use Rattle.std.proofs.Common.{◌==◌, Bool, true, false, drop, slice_index, ◌≡◌, ℕ, suc}
use Rattle.std.proofs.Common.{◌+◌, ◌^◌, ◌<◌, ◌≤◌, cond, List, [], ◌∷◌, ◌++◌, length}
use Rattle.std.proofs.Common.{get_or, Some, option_and_then, refl, sym, ap, subst, ◌∙◌, arith, append-nil, inl, inr}
use Rattle.std.proofs.lemmas.Bool.{ne_eqb, le-leb, and_from, cases_lt}
use Rattle.std.proofs.lemmas.Fmt.{decimal_is_IsNumeral, first_decimal}
use Rattle.std.proofs.lemmas.List.{drop_all}
use Rattle.std.proofs.lemmas.Str.Parse.{digit_at}
use Rattle.std.specs.Char.{is_ascii_digit}
use Rattle.std.specs.Fmt.{decimal, digits, sign_text}
use Rattle.std.specs.List.{prefix_len}
use Rattle.std.specs.Str.Parse.{AllDigits}
use Rattle.std.proofs.lemmas.Str.Parse.{digit_from_value}
use Rattle.json.specs.Word.{head}
use Rattle.cbor_json.specs.Decimal.{IsDecimal}
use Rattle.json.specs.Print.{IsNumber}
use Rattle.json.specs.Word.{after_whole, after_fraction, after_exponent, after_number}
use Rattle.json.proofs.Printed.Decimals.{IsNumber-decimal}
use Rattle.json.proofs.Printed.Floats.{IsNumber-plain}
use Rattle.ryu.specs.Plain.{IsLaidOutNumber}
use Rattle.cbor_json.specs.JsonLeaves.{integer_text, negative_text}

pub integer_number : (n : ℕ) → n < 2 ^ 64 → IsNumber (integer_text n)
integer_number n lt = subst IsNumber (sym (append-nil (decimal n))) (IsNumber-decimal n lt)

all_digits : (ds : List ℕ) → ((i : ℕ) → i < length ds → (48 ≤ get_or ds i 0) × (get_or ds i 0 ≤ 57))
    → prefix_len is_ascii_digit ds ≡ length ds
all_digits [] h = refl
all_digits (d ∷ ds) h =
    let first = h 0 (omega arith) in
    let rest = all_digits ds (λ i l. h (suc i) (omega arith)) in
    ap (λ b. cond b (1 + prefix_len is_ascii_digit ds) 0) (and_from _ _ (le-leb 48 d first.0) (le-leb d 57 first.1))
    ∙ omega arith

whole_digits : (ds : List ℕ) → 48 < get_or ds 0 0 → prefix_len is_ascii_digit ds ≡ length ds → after_whole ds ≡ Some []
whole_digits [] first all = absurd (omega arith)
whole_digits (d ∷ ds) first all =
    rw (ne_eqb d 48 (λ e. omega arith), all, ne_eqb (suc (length ds)) 0 (λ e. omega arith))
    (ap Some (drop_all (length ds) ds (omega arith)))

minus_number : (ds : List ℕ) → after_whole ds ≡ Some [] → IsNumber (45 ∷ ds)
unfolding after_number
minus_number ds whole = ap (λ o. option_and_then after_exponent (option_and_then after_fraction o)) whole

minus_decimal : (n : ℕ) → n < 2 ^ 64 → 0 < n → IsNumber (45 ∷ decimal n)
minus_decimal n lt some = minus_number (decimal n) (whole_digits (decimal n) (first_decimal n some lt)
    (all_digits _ (λ i l. digit_at _ i (decimal_is_IsNumeral n lt).0.1 l)))

largest : IsNumber (45 ∷ decimal 18446744073709551616)
unfolding after_number digits
largest = refl

pub negative_number : (n : ℕ) → n < 2 ^ 64 → IsNumber (negative_text n)
negative_number n lt =
    let same : 45 ∷ (decimal (n + 1) ++ []) ≡ 45 ∷ decimal (n + 1) = ap (λ x. 45 ∷ x) (append-nil (decimal (n + 1))) in
    subst IsNumber (sym same) (elim (cases_lt (n + 1) (2 ^ 64)) [
      | inl less ↦ minus_decimal (n + 1) less (omega arith)
      | inr more ↦
          let is : n + 1 ≡ 18446744073709551616 = omega (arith, lt, more) in
          subst (λ k. IsNumber (45 ∷ decimal k)) (sym is) largest
    ])

pub float_number : (t : List ℕ) → IsLaidOutNumber 16 4 t → IsNumber t
float_number t h =
    let p = h.3.0 in IsNumber-plain t (h.0, p, h.2 ∙ ap (λ x. sign_text h.0 ++ x) h.3.1, h.3.2)

-- ---- big numbers

decimal_whole : (ds : List ℕ) → AllDigits 10 ds → 0 < length ds → (slice_index ds 0 ≡ 48 → length ds ≡ 1)
    → (after_whole ds ≡ Some []) × ((head ds == 45) ≡ false)
decimal_whole [] all some first = absurd (omega arith)
decimal_whole (d ∷ ds) all some first = elim (cases_lt 48 d) [
  | inl lt ↦ (
    whole_digits (d ∷ ds) lt (all_digits (d ∷ ds) (λ i l. digit_at (d ∷ ds) i all l)),
    ne_eqb d 45 (λ e. omega arith),
  )
  | inr le ↦
      let range = digit_from_value d all.0 in
      let is : d ≡ 48 = omega (arith, range, le) in
      let none : length ds ≡ 0 = omega (arith, first is) in
      one_zero d ds is none
]
  where
    one_zero : (d : ℕ) (ds : List ℕ) → d ≡ 48 → length ds ≡ 0
        → (after_whole (d ∷ ds) ≡ Some []) × ((head (d ∷ ds) == 45) ≡ false)
    one_zero d [] is none = (rw is refl, rw is refl)
    one_zero d (c ∷ ds) is none = absurd (omega arith)

pub big_number : (negative : Bool) (n : ℕ) (ds : List ℕ) → IsDecimal n ds → IsNumber (sign_text negative ++ ds)
unfolding after_number
big_number true n ds is =
    let w = decimal_whole ds is.digits.1 is.digits.0 is.shortest in
    ap (λ o. option_and_then after_exponent (option_and_then after_fraction o)) w.0
big_number false n ds is =
    let w = decimal_whole ds is.digits.1 is.digits.0 is.shortest in
    ap (λ o. option_and_then after_exponent (option_and_then after_fraction o))
    (ap (λ b. after_whole (cond b (drop 1 ds) ds)) w.1 ∙ w.0)
