-- The function `shorter`, which `EncodedFloat::shorter` computes, returns a float in its preferred width if that is
-- shorter (`IsPreferredOf`), and None if and only if no shorter width has the float (`IsPreferred`). Two preferred
-- floats that are the same double (`widened`) are equal, if their bits fit their widths.
use Rattle.std.proofs.Common.{◌≡◌, ◌≢◌, ℕ, ◌*◌, ◌/◌, ◌%◌, ◌^◌, ◌<◌, ◌≤◌, Bool, true, false, cond, not, T, Option}
use Rattle.std.proofs.Common.{Some, None, MatchOption, inl, inr, refl, sym, ap, ◌∙◌, subst, arith, true≢false, nat_le}
use Rattle.std.proofs.Common.{eqb, eqb-true, eq-eqb, leb-true, leb-false, lit<}
use lib.Ieee.{Float, nan, inf, fin, is_nan, binary32, binary64, of_bits, to_bits, fits, up, down}
use lib.Ieee.Exact.{HasValue}
use lib.Ieee.Bits.{of_bits-to_bits, to_bits-of_bits, to_bits-lt, of_bits-fits, nan_bits_is, nan_bits_above}
use lib.Ieee.Fits.{fits_widens, round-fits}
use Rattle.std.specs.Float.{round_to_format}
use Rattle.std.proofs.lemmas.Bool.{cases_Bool, lt-ltb, ltb-true, eqb-false}
use Rattle.std.proofs.Common.{le-leb}
use borrow.Author.Tests.{lt-leb}
use Rattle.cbor_floats.specs.Value.{half_value, half_of_fields, half_units, width_of, size_of}
use Rattle.cbor_floats.specs.Nearest.{nearest_half}
use Rattle.cbor_floats.specs.Preferred.{half_nan, single_nan, double_nan, widened, FitsWidth, IsPreferred}
use Rattle.cbor_floats.specs.Preferred.{IsPreferredOf, half_candidate, single_candidate, same_or, shorter}
use Rattle.cbor_floats.specs.declared.float.EncodedFloat.{EncodedFloat}
use Rattle.cbor_floats.specs.declared.float.EncodedFloat.TheVariants.{Half, Single, Double}
use Rattle.cbor_floats.proofs.Values.{round_to_format-own}
use Rattle.cbor_floats.proofs.Halves.{half_says, nan_is_nan}
use Rattle.cbor_floats.proofs.Rounding.{half_found}

-- ---- which bits are a NaN

nan_above : (n : ℕ) → 2047 * 2 ^ 52 < n % 2 ^ 63 → is_nan (of_bits binary64 n) ≡ true
nan_above n h =
    sym (nan_bits_is binary64 n) ∙ nan_bits_above binary64 n ∙ lt-ltb (2047 * 2 ^ 52) (n % 2 ^ 63) h

single_above : (n : ℕ) → is_nan (of_bits binary32 n) ≡ true → 255 * 2 ^ 23 < n % 2 ^ 31
single_above n e =
    ltb-true (255 * 2 ^ 23) (n % 2 ^ 31) (sym (nan_bits_above binary32 n) ∙ nan_bits_is binary32 n ∙ e)

-- the fields of a half that is a NaN
half_above : (n : ℕ) → n < 2 ^ 16 → is_nan (half_value n) ≡ true → 31 * 2 ^ 10 < n % 2 ^ 15
unfolding half_value is_nan
half_above n h e =
    elim (half_says n h) [
      | inl a ↦ elim (cases_Bool (eqb (n % 1024) 0)) [
        | inl b ↦
            let exponent : n % 32768 / 1024 ≡ 31 = a.0 in absurd (true≢false (sym (rw (exponent, b) at e)))
        | inr b ↦ omega (arith, a.0, eqb-false _ _ b)
      ]
      | inr (inl a) ↦
          let x : half_value n ≡ inf (nat_le 32768 n) = a.2 in absurd (true≢false (sym e ∙ ap is_nan x))
      | inr (inr a) ↦
          absurd (subst (λ (x : Float). HasValue x (nat_le 32768 n) (half_units (n % 32768 / 1024) (n % 1024)) (2 ^ 24))
          (nan_is_nan (half_value n) (sym e)) a.1)
    ]

-- ---- a double of each

fields_fit : (s : Bool) (exponent fraction : ℕ) → T (fits binary64 (half_of_fields s exponent fraction))
unfolding fits
fields_fit s exponent fraction =
    elim (cases_Bool (eqb exponent 31)) [
      | inl a ↦ elim (cases_Bool (eqb fraction 0)) [ inl b ↦ rw (a, b) tt | inr b ↦ rw (a, b) tt ]
      | inr a ↦ rw a (round-fits binary64 s (half_units exponent fraction) (2 ^ 24))
    ]

pub half_fits : (n : ℕ) → T (fits binary64 (half_value n))
unfolding half_value
half_fits n = fields_fit (nat_le 32768 n) (n % 32768 / 1024) (n % 1024)

single_fits : (n : ℕ) → T (fits binary64 (of_bits binary32 n))
single_fits n = fits_widens (of_bits binary32 n) (of_bits-fits binary32 n)

-- the number of the double that a number has
read_double : (x : Float) (d : ℕ) → T (fits binary64 x) → to_bits binary64 x ≡ d → of_bits binary64 d ≡ x
read_double x d t e = ap (of_bits binary64) (sym e) ∙ of_bits-to_bits binary64 x t

-- ---- a float of a shorter width is the candidate

-- the parts of a NaN are those of its double
half_parts : (n : ℕ) (s : Bool) → n < 2 ^ 16 → 31 * 2 ^ 10 < n % 2 ^ 15 → nat_le (2 ^ 15) n ≡ s
    → (d : ℕ) → d ≡ double_nan s (n % 2 ^ 10 * 2 ^ 42)
    → (nat_le (2 ^ 63) d ≡ s) × (2047 * 2 ^ 52 < d % 2 ^ 63)
    × (half_nan s (d % 2 ^ 52 / 2 ^ 42) ≡ n)
half_parts n true h above sign d e =
    let big : 2 ^ 15 ≤ n = leb-true (2 ^ 15) n sign in
    let top_bit : 2 ^ 63 ≤ d = omega arith in
    (le-leb (2 ^ 63) d top_bit, omega arith, omega arith)
half_parts n false h above sign d e =
    let small : n < 2 ^ 15 = leb-false (2 ^ 15) n sign in
    let no_top_bit : d < 2 ^ 63 = omega arith in
    (lt-leb (2 ^ 63) d no_top_bit, omega arith, omega arith)

single_parts : (n : ℕ) (s : Bool) → n < 2 ^ 32 → 255 * 2 ^ 23 < n % 2 ^ 31 → nat_le (2 ^ 31) n ≡ s
    → (d : ℕ) → d ≡ double_nan s (n % 2 ^ 23 * 2 ^ 29)
    → (nat_le (2 ^ 63) d ≡ s) × (2047 * 2 ^ 52 < d % 2 ^ 63)
    × (single_nan s (d % 2 ^ 52 / 2 ^ 29) ≡ n)
single_parts n true h above sign d e =
    let big : 2 ^ 31 ≤ n = leb-true (2 ^ 31) n sign in
    let top_bit : 2 ^ 63 ≤ d = omega arith in
    (le-leb (2 ^ 63) d top_bit, omega arith, omega arith)
single_parts n false h above sign d e =
    let small : n < 2 ^ 31 = leb-false (2 ^ 31) n sign in
    let no_top_bit : d < 2 ^ 63 = omega arith in
    (lt-leb (2 ^ 63) d no_top_bit, omega arith, omega arith)

half_own : (n d : ℕ) → n < 2 ^ 16 → widened (Half n) ≡ d → half_candidate d ≡ n
unfolding widened half_candidate is_nan
half_own n d h e =
    elim (cases_Bool (is_nan (half_value n))) [
      | inl nan_here ↦
          let p = half_parts n (nat_le (2 ^ 15) n) h (half_above n h nan_here) refl d (sym e ∙ rw nan_here refl) in
          rw (nan_above d p.1, p.0) p.2
      | inr number ↦
          let x = half_value n in
          let same : of_bits binary64 d ≡ x = read_double x d (half_fits n) (sym (rw number refl) ∙ e) in
          rw (same, number) (sym (half_found x n
          (record { fits = h; value = refl; usual = λ z. absurd (true≢false (sym (ap is_nan z) ∙ number)) })))
    ]

single_own : (n d : ℕ) → n < 2 ^ 32 → widened (Single n) ≡ d → single_candidate d ≡ n
unfolding widened single_candidate
single_own n d h e =
    elim (cases_Bool (is_nan (of_bits binary32 n))) [
      | inl nan_here ↦
          let p = single_parts n (nat_le (2 ^ 31) n) h (single_above n nan_here) refl d (sym e ∙ rw nan_here refl) in
          rw (nan_above d p.1, p.0) p.2
      | inr number ↦
          let x = of_bits binary32 n in
          let same : of_bits binary64 d ≡ x = read_double x d (single_fits n) (sym (rw number refl) ∙ e) in
          rw (same, number) (ap (to_bits binary32) (round_to_format-own binary32 x (of_bits-fits binary32 n))
          ∙ to_bits-of_bits binary32 n h (subst (λ (b : Bool). T (not b)) (sym number) tt))
    ]

-- ---- the function finds what the definition says

abbrev pub Finds : EncodedFloat → Option EncodedFloat → Type 0
Finds f o = MatchOption o (IsPreferred f) (λ g. IsPreferredOf f g)

no_shorter : (n : ℕ) → IsPreferred (Half n)
no_shorter n (Half m) fits lt = absurd (omega arith)
no_shorter n (Single m) fits lt = absurd (omega arith)
no_shorter n (Double m) fits lt = absurd (omega arith)

-- a double that its candidates are not
no_half : (d : ℕ) → eqb (widened (Half (half_candidate d))) d ≡ false → (n : ℕ) → n < 2 ^ 16 → widened (Half n) ≢ d
no_half d off n h = λ same.
    true≢false (sym (eq-eqb (widened (Half (half_candidate d))) d
    (ap (λ (k : ℕ). widened (Half k)) (half_own n d h same) ∙ same)) ∙ off)

no_single : (d : ℕ) → eqb (widened (Single (single_candidate d))) d ≡ false → (n : ℕ) → n < 2 ^ 32
    → widened (Single n) ≢ d
no_single d off n h = λ same.
    true≢false (sym (eq-eqb (widened (Single (single_candidate d))) d
    (ap (λ (k : ℕ). widened (Single k)) (single_own n d h same) ∙ same)) ∙ off)

single_preferred : (n : ℕ) → eqb (widened (Half (half_candidate (widened (Single n))))) (widened (Single n)) ≡ false
    → IsPreferred (Single n)
single_preferred n off (Half m) fits lt = no_half (widened (Single n)) off m fits
single_preferred n off (Single m) fits lt = absurd (omega arith)
single_preferred n off (Double m) fits lt = absurd (omega arith)

double_preferred : (d : ℕ) → eqb (widened (Half (half_candidate d))) d ≡ false
    → eqb (widened (Single (single_candidate d))) d ≡ false → IsPreferred (Double d)
unfolding widened
double_preferred d half single (Half m) fits lt = no_half d half m fits
double_preferred d half single (Single m) fits lt = no_single d single m fits
double_preferred d half single (Double m) fits lt = absurd (omega arith)

nearest_fits : (x : Float) → nearest_half x < 2 ^ 16
unfolding nearest_half
nearest_fits nan = lit< tt
nearest_fits (inf true) = lit< tt
nearest_fits (inf false) = lit< tt
nearest_fits (fin true m e) = omega arith
nearest_fits (fin false m e) = omega arith

rounded_fits : (x : Float) → T (fits binary32 (round_to_format binary32 x))
unfolding round_to_format fits
rounded_fits nan = tt
rounded_fits (inf s) = tt
rounded_fits (fin s m e) = round-fits binary32 s (m * up e) (down e)

half_size : (d : ℕ) → half_candidate d < 2 ^ 16
unfolding half_candidate
half_size d =
    sized (is_nan (of_bits binary64 d)) (nat_le (2 ^ 63) d) (d % 2 ^ 52 / 2 ^ 42) (nearest_half (of_bits binary64 d))
    (omega arith) (nearest_fits (of_bits binary64 d))
  where
    sized : (t s : Bool) (fraction n : ℕ) → fraction < 2 ^ 10 → n < 2 ^ 16 → cond t (half_nan s fraction) n < 2 ^ 16
    sized true true fraction n f h = omega arith
    sized true false fraction n f h = omega arith
    sized false s fraction n f h = h

single_size : (d : ℕ) → single_candidate d < 2 ^ 32
unfolding single_candidate
single_size d =
    let y = round_to_format binary32 (of_bits binary64 d) in
    sized (is_nan (of_bits binary64 d)) (nat_le (2 ^ 63) d) (d % 2 ^ 52 / 2 ^ 29) (to_bits binary32 y)
    (omega arith) (to_bits-lt binary32 y (rounded_fits (of_bits binary64 d)))
  where
    sized : (t s : Bool) (fraction n : ℕ) → fraction < 2 ^ 23 → n < 2 ^ 32 → cond t (single_nan s fraction) n < 2 ^ 32
    sized true true fraction n f h = omega arith
    sized true false fraction n f h = omega arith
    sized false s fraction n f h = h

half_is : (f : EncodedFloat) (d : ℕ) → 16 < size_of (width_of f) → widened f ≡ d
    → eqb (widened (Half (half_candidate d))) d ≡ true → IsPreferredOf f (Half (half_candidate d))
half_is f d longer is same = record {
  fits = half_size d;
  shorter = longer;
  same = eqb-true _ d same ∙ sym is;
  is_preferred = no_shorter (half_candidate d);
}

pub shorter_finds : (f : EncodedFloat) → Finds f (shorter f)
unfolding shorter widened
shorter_finds (Half n) = no_shorter n
shorter_finds (Single n) =
    let d = widened (Single n) in
    elim (cases_Bool (eqb (widened (Half (half_candidate d))) d)) [
      | inl same ↦ rw same (half_is (Single n) d (omega arith) refl same)
      | inr off ↦ rw off (single_preferred n off)
    ]
shorter_finds (Double d) =
    elim (cases_Bool (eqb (widened (Half (half_candidate d))) d)) [
      | inl same ↦ rw same (half_is (Double d) d (omega arith) refl same)
      | inr off ↦ elim (cases_Bool (eqb (widened (Single (single_candidate d))) d)) [
        | inl same ↦
            let is = eqb-true (widened (Single (single_candidate d))) d same in
            rw (off, same) (record {
              fits = single_size d;
              shorter = omega arith;
              same = is;
              is_preferred = single_preferred (single_candidate d) (rw is off);
            })
        | inr longer ↦ rw (off, longer) (double_preferred d off longer)
      ]
    ]

-- there is no shorter float if and only if the width is preferred
pub none_preferred : (f : EncodedFloat) → shorter f ≡ None → IsPreferred f
none_preferred f e = subst (Finds f) e (shorter_finds f)

pub preferred_none : (f : EncodedFloat) → IsPreferred f → shorter f ≡ None
preferred_none f preferred = go (shorter f) refl (shorter_finds f)
  where
    go : (o : Option EncodedFloat) → shorter f ≡ o → Finds f o → shorter f ≡ None
    go None e found = e
    go (Some g) e found = absurd (preferred g found.fits found.shorter found.same)

-- ---- what the code computes

pub single_gives : (f : EncodedFloat) (n d half : ℕ) (o : Option EncodedFloat) → f ≡ Single n → d ≡ widened f
    → half ≡ half_candidate d → o ≡ same_or (Half half) d None → o ≡ shorter f
unfolding shorter
single_gives f n d half o is double candidate gives =
    let its_double : d ≡ widened (Single n) = double ∙ ap widened is in
    let its_half : half ≡ half_candidate (widened (Single n)) = candidate ∙ ap half_candidate its_double in
    gives ∙ ap (λ (k : ℕ). same_or (Half k) d None) its_half
    ∙ ap (λ (k : ℕ). same_or (Half (half_candidate (widened (Single n)))) k None) its_double ∙ sym (ap shorter is)

pub double_gives : (f : EncodedFloat) (n d half single : ℕ) (o p : Option EncodedFloat) → f ≡ Double n
    → d ≡ widened f → half ≡ half_candidate d → single ≡ single_candidate d → p ≡ same_or (Single single) d None
    → o ≡ same_or (Half half) d p → o ≡ shorter f
unfolding shorter widened
double_gives f n d half single o p is double candidate its_single then gives =
    let its_double : d ≡ n = double ∙ ap widened is in
    gives ∙ ap (same_or (Half half) d) then
    ∙ ap (λ (k : ℕ). same_or (Half half) k (same_or (Single single) k None)) its_double
    ∙ ap (λ (k : ℕ). same_or (Half k) n (same_or (Single single) n None)) (candidate ∙ ap half_candidate its_double)
    ∙ ap (λ (k : ℕ). same_or (Half (half_candidate n)) n (same_or (Single k) n None))
    (its_single ∙ ap single_candidate its_double)
    ∙ sym (ap shorter is)

-- what is the function's has what the definition says
pub finds_same : (f : EncodedFloat) (o : Option EncodedFloat) → o ≡ shorter f → Finds f o
finds_same f o e = subst (Finds f) (sym e) (shorter_finds f)

-- ---- a float is preferred once

pub preferred_once : (f g : EncodedFloat) → FitsWidth f → FitsWidth g → IsPreferred f → IsPreferred g
    → widened f ≡ widened g → f ≡ g
unfolding widened
preferred_once (Half a) (Half b) h k p q same =
    ap Half (sym (half_own a (widened (Half b)) h same) ∙ half_own b (widened (Half b)) k refl)
preferred_once (Single a) (Single b) h k p q same =
    ap Single (sym (single_own a (widened (Single b)) h same) ∙ single_own b (widened (Single b)) k refl)
preferred_once (Double a) (Double b) h k p q same = ap Double same
preferred_once (Half a) (Single b) h k p q same = absurd (q (Half a) h (omega arith) same)
preferred_once (Half a) (Double b) h k p q same = absurd (q (Half a) h (omega arith) same)
preferred_once (Single a) (Double b) h k p q same = absurd (q (Single a) h (omega arith) same)
preferred_once (Single a) (Half b) h k p q same = absurd (p (Half b) k (omega arith) (sym same))
preferred_once (Double a) (Half b) h k p q same = absurd (p (Half b) k (omega arith) (sym same))
preferred_once (Double a) (Single b) h k p q same = absurd (p (Single b) k (omega arith) (sym same))
