-- For `half.rt`: the number of a half (`half_value`) is NaN, an infinity, or `half_units` times 2 ^ -24, by its sign,
-- exponent and fraction. The code computes this number as a double without rounding, and its shift loses no bit.
use Rattle.std.proofs.Common.{◌≡◌, ◌⊎◌, inl, inr, ℕ, ◌+◌, ◌-◌, ◌*◌, ◌/◌, ◌%◌, ◌^◌, ◌<◌, Bool, true, false, cond, pos}
use Rattle.std.proofs.Common.{zero, suc, refl, sym, ap, ◌∙◌, subst, arith, true≢false, nat_le, eqb, eqb-true, ne_eqb}
use Rattle.std.proofs.Common.{lit<, lit≤, mul_assoc, mul_comm, mul-pos, lt_of_lt_of_le, pow-add, pow_mono, shl_lt}
use Rattle.std.proofs.Common.{shl_exact, leb-true, leb-false}
use lib.Ieee.{Float, nan, inf, fin, is_nan, binary64, up, down, round, neg, div, of_bits}
use lib.Ieee.Exact.{HasValue, round_exact}
use lib.Ieee.Fits.{down_pos}
use lib.Ieee.Scale.{round_same}
use Rattle.fast_float.proofs.Patterns.{neg-round}
use Rattle.std.proofs.lemmas.Bool.{cases_Bool, eqb-false}
use Rattle.cbor_floats.specs.Value.{half_units, half_of_fields, half_value}

pub half_exact : (s : Bool) (u : ℕ) → u < 2 ^ 41 → HasValue (round binary64 s u (2 ^ 24)) s u (2 ^ 24)
half_exact s u h =
    round_exact binary64 s u (2 ^ 24) u 1050 (lit< tt) (lt_of_lt_of_le h (lit≤ tt))
    (lt_of_lt_of_le (shl_lt {a = u} 41 1050 h) (pow_mono {i = 1091} {j = 2098} (lit≤ tt)))
    (ap (λ (z : ℕ). u * z) {y = 2 ^ 1050 * 2 ^ 24} (pow-add 2 1050 24) ∙ sym (mul_assoc u (2 ^ 1050) (2 ^ 24)))

pub scale_is : of_bits binary64 0x4170_0000_0000_0000 ≡ fin false 1 (pos 24)
unfolding of_bits
scale_is = refl

pub scaled_down : (x : Float) (u : ℕ) → HasValue x false u 1
    → div binary64 x (fin false 1 (pos 24)) ≡ round binary64 false u (2 ^ 24)
unfolding div
scaled_down nan u v = absurd v
scaled_down (inf t) u v = absurd v
scaled_down (fin true m e) u v = absurd (true≢false v.0)
scaled_down (fin false m e) u v =
    round_same binary64 false (m * up e * 1) (1 * 2 ^ 24 * down e) u (2 ^ 24) (mul-pos (lit< tt) (down_pos e)) (lit< tt)
    (ap (λ (z : ℕ). z * 2 ^ 24) v.1 ∙ mul_assoc u (down e) (2 ^ 24)
    ∙ ap (λ (z : ℕ). u * z) (mul_comm (down e) (2 ^ 24)))

pub units_normal : (k fraction : ℕ) → half_units (suc k) fraction ≡ (1024 + fraction) * 2 ^ k
units_normal k fraction =
    let e : suc k - 1 ≡ k = omega arith in
    ap (λ (b : Bool). cond b fraction ((1024 + fraction) * 2 ^ (suc k - 1))) (ne_eqb (suc k) 0 (λ z. omega arith))
    ∙ ap (λ (j : ℕ). (1024 + fraction) * 2 ^ j) e

pub units_few : (exponent fraction : ℕ) → exponent < 31 → fraction < 1024 → half_units exponent fraction < 2 ^ 41
units_few zero fraction e f = omega arith
units_few (suc k) fraction e f =
    let h : 1024 + fraction < 2 ^ 11 = omega arith in
    subst (λ (u : ℕ). u < 2 ^ 41) (sym (units_normal k fraction))
    (lt_of_lt_of_le (shl_lt {a = 1024 + fraction} 11 k h) (pow_mono {i = 11 + k} {j = 41} (omega arith)))

-- what the fields of a half say of its number
abbrev pub Fields : Bool → ℕ → ℕ → Float → Type 0
Fields s exponent fraction x =
    ((exponent ≡ 31) × (x ≡ nan))
    ⊎ (((exponent ≡ 31) × (fraction ≡ 0) × (x ≡ inf s))
    ⊎ ((exponent < 31) × HasValue x s (half_units exponent fraction) (2 ^ 24)))

fields_say : (s : Bool) (exponent fraction : ℕ) → exponent < 32 → fraction < 1024
    → Fields s exponent fraction (half_of_fields s exponent fraction)
fields_say s exponent fraction e f =
    elim (cases_Bool (eqb exponent 31)) [
      | inl a ↦ elim (cases_Bool (eqb fraction 0)) [
        | inl b ↦ inr (inl (eqb-true _ 31 a, eqb-true _ 0 b, rw (a, b) refl))
        | inr b ↦ inl (eqb-true _ 31 a, rw (a, b) refl)
      ]
      | inr a ↦
          let l : exponent < 31 = omega (arith, eqb-false exponent 31 a) in
          inr (inr (l, rw a (half_exact s (half_units exponent fraction) (units_few exponent fraction l f))))
    ]

-- what a half's bits say of its number
pub half_says : (bits : ℕ) → bits < 2 ^ 16 → Fields (nat_le 32768 bits) (bits % 32768 / 1024) (bits % 1024)
    (half_value bits)
unfolding half_value
half_says bits h = fields_say (nat_le 32768 bits) (bits % 32768 / 1024) (bits % 1024) (omega arith) (omega arith)

pub infinity_is : of_bits binary64 0x7ff0_0000_0000_0000 ≡ inf false
unfolding of_bits
infinity_is = refl

pub nan_is : of_bits binary64 0x7ff8_0000_0000_0000 ≡ nan
unfolding of_bits
nan_is = refl

pub minus_infinity_is : of_bits binary64 0xfff0_0000_0000_0000 ≡ inf true
unfolding of_bits
minus_infinity_is = refl

pub of_finite : (x : Float) (exponent fraction : ℕ) → exponent < 31
    → x ≡ round binary64 false (half_units exponent fraction) (2 ^ 24) → x ≡ half_of_fields false exponent fraction
of_finite x exponent fraction l e = rw (ne_eqb exponent 31 (λ z. omega arith)) e

pub of_infinity : (exponent fraction : ℕ) → exponent ≡ 31 → fraction ≡ 0
    → of_bits binary64 0x7ff0_0000_0000_0000 ≡ half_of_fields false exponent fraction
of_infinity exponent fraction e f = rw (e, f) infinity_is

pub of_nan : (exponent fraction : ℕ) → exponent ≡ 31 → (fraction ≡ 0 → ⊥)
    → of_bits binary64 0x7ff8_0000_0000_0000 ≡ half_of_fields false exponent fraction
of_nan exponent fraction e f = rw (e, ne_eqb fraction 0 f) nan_is

pub negated : (exponent fraction : ℕ)
    → neg (half_of_fields false exponent fraction) ≡ half_of_fields true exponent fraction
unfolding neg
negated exponent fraction =
    elim (cases_Bool (eqb exponent 31)) [
      | inl a ↦ elim (cases_Bool (eqb fraction 0)) [ inl b ↦ rw (a, b) refl | inr b ↦ rw (a, b) refl ]
      | inr a ↦ rw a (neg-round binary64 (half_units exponent fraction) (2 ^ 24))
    ]

-- no bit is shifted out
pub units_shifted : (exponent fraction : ℕ) → 0 < exponent → exponent < 31 → fraction < 1024
    → ((1024 + fraction) * 2 ^ (exponent - 1) % 2 ^ 64 ≡ half_units exponent fraction)
    × (half_units exponent fraction < 2 ^ 41)
units_shifted exponent fraction p e f =
    let h : 1024 + fraction < 2 ^ 11 = omega arith in
    let k : suc (exponent - 1) ≡ exponent = omega arith in
    let n : half_units exponent fraction ≡ (1024 + fraction) * 2 ^ (exponent - 1) =
    subst (λ (z : ℕ). half_units z fraction ≡ (1024 + fraction) * 2 ^ (exponent - 1)) k
    (units_normal (exponent - 1) fraction) in
    (shl_exact {a = 1024 + fraction} 11 (exponent - 1) 64 h (omega arith) ∙ sym n, units_few exponent fraction e f)

-- ---- a half's number gives its bits back

pub signed : (bits size : ℕ) (t : Bool) → bits < 2 ^ 16 → t ≡ nat_le 32768 bits
    → bits % 32768 / 1024 * 1024 + bits % 1024 ≡ size → bits ≡ cond t (32768 + size) size
signed bits size true h e p = let l = leb-true 32768 bits (sym e) in omega arith
signed bits size false h e p = let l = leb-false 32768 bits (sym e) in omega arith

pub nan_is_nan : (x : Float) → true ≡ is_nan x → x ≡ nan
unfolding is_nan
nan_is_nan nan e = refl
nan_is_nan (inf t) e = absurd (true≢false e)
nan_is_nan (fin t m q) e = absurd (true≢false e)

pub usual_half : half_value 0x7e00 ≡ nan
unfolding half_value
usual_half = refl
