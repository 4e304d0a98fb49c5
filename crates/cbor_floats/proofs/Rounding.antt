-- For `nearest.rt`: the half that the code computes from the bits of a double is its `nearest_half`. The bits
-- (`half_bits_of_units`) depend only on the value of the fraction, not on how it is written. If a half encodes a
-- number, it is the `nearest_half` of the number; if that half is not the number, no half is.
use Rattle.std.proofs.Common.{◌≡◌, ◌⊎◌, inl, inr, ℕ, ℤ, zero, suc, ◌+◌, ◌-◌, ◌*◌, ◌/◌, ◌%◌, ◌^◌, ◌<◌, ◌≤◌, min, max}
use Rattle.std.proofs.Common.{Bool, true, false, not, cond, T, ltb, refl, sym, ap, ap₂, ◌∙◌, subst, arith, true≢false}
use Rattle.std.proofs.Common.{lit<, lit≤, mul_assoc, mul_right_comm, mul-one, one-mul, mul-pos, mul-le-mul_right}
use Rattle.std.proofs.Common.{mul-le-mul, mul-lt-mul_of_pos_right, le-add_right, div-lt_iff_lt-mul, not-le_of_lt}
use Rattle.std.proofs.Common.{le_trans, le_of_eq, le_of_lt, lt_of_lt_of_le, lt_of_le_of_lt, lt_of_not-le}
use Rattle.std.proofs.Common.{le-div_iff_mul-le, le_of_mul-le-mul_right, pow-add, pow_pos, pow_mono, shr_lt, lt-ltb}
use Rattle.std.proofs.Common.{le-ltb, ltb-true, ltb-false, div-le_self, mod-eq_of_lt, nat_le, mul-div_cancel, div-one}
use Rattle.std.proofs.Common.{shl_lt}
use Prim.Native.Nat.compare
use Prim.Native.Nat.{compare, Ordering}
use native.Mathlib.Nat.{eq_of_mul-eq-mul_right, mul-mod_left}
use lib.Count.{count_leading_zeros, leading_top, leading_of_zero}
use lib.Ieee.{Float, nan, inf, fin, binary64, fits, is_nan, to_bits, of_bits, size, nearest, up, down}
use lib.Ieee.Bits.{of_bits-to_bits}
use lib.Ieee.Digits.{size-lt, size-le}
use lib.Ieee.Exact.{HasValue}
use lib.Ieee.Fits.{down_pos, kept-lt}
use lib.Ieee.Nearest.{closest, closest_same, div_same}
use Rattle.std.proofs.lemmas.Bool.{cases_Bool}
use Rattle.std.proofs.Math.Nat.{div-eq_of_lt}
use Rattle.std.specs.Float.{float_is_infinite, float_with_sign, is_sign_negative}
use Rattle.fast_float.proofs.Patterns.{of_bits_value, field_units}
use Rattle.cbor_floats.proofs.Halves.{Fields, half_says, signed, nan_is_nan, units_normal}
use Rattle.cbor_floats.proofs.Values.{bounds}
use Rattle.cbor_floats.specs.Value.{half_units, half_value, IsEncodingOf}
use Rattle.cbor_floats.specs.declared.float.EncodedFloat.TheVariants.{Half}
use Rattle.cbor_floats.specs.mirror.DoubleBits.{digits_of_bits, shift_of_bits}
use Rattle.cbor_floats.specs.Nearest.{half_bits_of_units, nearest_half, with_half_sign}

-- ---- the closest whole number, by what is cut off

compare-lt : (a b : ℕ) → a < b → compare a b ≡ Ordering.lt
compare-lt zero (suc b) h = compare.zero-suc b
compare-lt (suc a) (suc b) h = compare.suc-suc a b ∙ compare-lt a b (omega arith)
compare-lt a zero h = absurd (omega arith)

compare-eq : (a b : ℕ) → a ≡ b → compare a b ≡ Ordering.eq
compare-eq zero zero h = compare.zero-zero
compare-eq (suc a) (suc b) h = compare.suc-suc a b ∙ compare-eq a b (omega arith)
compare-eq zero (suc b) h = absurd (omega arith)
compare-eq (suc a) zero h = absurd (omega arith)

compare-gt : (a b : ℕ) → b < a → compare a b ≡ Ordering.gt
compare-gt (suc a) zero h = compare.suc-zero a
compare-gt (suc a) (suc b) h = compare.suc-suc a b ∙ compare-gt a b (omega arith)
compare-gt zero b h = absurd (omega arith)

pub closest_below : (a u : ℕ) → a % u * 2 < u → a / u ≡ closest a u
closest_below a u h = sym (ap (nearest (a / u)) (compare-lt (a % u * 2) u h))

pub closest_above : (a u : ℕ) → u < a % u * 2 → a / u + 1 ≡ closest a u
closest_above a u h = omega (arith, ap (nearest (a / u)) (compare-gt (a % u * 2) u h))

pub closest_tie : (a u : ℕ) → u ≤ a % u * 2 → a % u * 2 ≤ u → a / u + a / u % 2 ≡ closest a u
closest_tie a u h k = sym (ap (nearest (a / u)) (compare-eq (a % u * 2) u (omega arith)))

-- ---- the fraction alone counts

pub units_same : (a b c d : ℕ) → 0 < b → 0 < d → a * d ≡ c * b → half_bits_of_units a b ≡ half_bits_of_units c d
units_same a b c d B D e =
    let k : size (a / b) - 11 ≡ size (c / d) - 11 = ap (λ (z : ℕ). size z - 11) (div_same a b c d B D e) in
    let j = size (c / d) - 11 in
    let y : a * (d * 2 ^ j) ≡ c * (b * 2 ^ j) = sym (mul_assoc a d (2 ^ j)) ∙ ap (λ (z : ℕ). z * 2 ^ j) e
    ∙ mul_assoc c b (2 ^ j) in
    ap (λ (z : ℕ). min (z * 1024 + closest a (b * 2 ^ z)) 31744) k
    ∙ ap (λ (z : ℕ). min (j * 1024 + z) 31744) (closest_same a (b * 2 ^ j) c (d * 2 ^ j) (mul-pos B (pow_pos j))
    (mul-pos D (pow_pos j)) y)

-- ---- how many digits a number has, by the zeros before them

pub size_is : (u : ℕ) → u < 2 ^ 64 → 64 - count_leading_zeros 64 u ≡ size u
size_is zero h = omega (arith, leading_of_zero 64, size-le 0 0 (lit< tt))
size_is (suc n) h =
    let t = leading_top 64 (suc n) (omega arith) h in
    let places : count_leading_zeros 64 (suc n) + suc t.0 ≡ 64 = t.1 in
    let a : size (suc n) ≤ suc t.0 = size-le (suc n) (suc t.0) t.3 in
    let b : t.0 < size (suc n) = lt_of_not-le (λ (g : size (suc n) ≤ t.0). omega
    (arith, size-lt (suc n), pow_mono {i = size (suc n)} {j = t.0} g, t.2)) in
    omega arith

pub dropped_is : (digits shift p d : ℕ) → p ≡ 2 ^ shift → d ≡ 64 - count_leading_zeros 64 (digits / p) - 11
    → d ≡ 64 - count_leading_zeros 64 (digits / 2 ^ shift) - 11
dropped_is digits shift p d q e = e ∙ ap (λ (z : ℕ). 64 - count_leading_zeros 64 (digits / z) - 11) q

-- what is cut off in all is less than a word
cut_fits : (digits shift : ℕ) → digits < 2 ^ 53 → shift < 64 → shift + (size (digits / 2 ^ shift) - 11) < 64
cut_fits digits shift h s =
    elim (cases_le shift 53) [
      | inl l ↦
          let e : 53 - shift + shift ≡ 53 = omega arith in
          let k : digits < 2 ^ (53 - shift + shift) = subst (λ (z : ℕ). digits < 2 ^ z) (sym e) h in
          let z = size-le (digits / 2 ^ shift) (53 - shift) (shr_lt (53 - shift) shift k) in
          omega arith
      | inr g ↦
          let k : digits < 2 ^ shift = lt_of_lt_of_le h (pow_mono {i = 53} {j = shift} (le_of_lt g)) in
          let z = size-le (digits / 2 ^ shift) 0 (le_of_eq_lt (div-eq_of_lt k)) in
          omega arith
    ]
  where
    cases_le : (a b : ℕ) → (a ≤ b) ⊎ (b < a)
    cases_le a b = elim (cases_Bool (ltb b a)) [ inl e ↦ inr (ltb-true b a e) | inr e ↦ inl (ltb-false b a e) ]

    le_of_eq_lt : {a : ℕ} → a ≡ 0 → a < 1
    le_of_eq_lt e = omega arith

pub cut_below : (digits shift d : ℕ) → digits < 2 ^ 53 → shift < 64
    → d ≡ 64 - count_leading_zeros 64 (digits / 2 ^ shift) - 11 → shift + d < 64
cut_below digits shift d h s e =
    let l : digits / 2 ^ shift < 2 ^ 64 = lt_of_le_of_lt (div-le_self digits (2 ^ shift))
    (lt_of_lt_of_le h (lit≤ tt)) in
    let z = size_is (digits / 2 ^ shift) l in
    omega (arith, cut_fits digits shift h s)

-- the bits from what is kept
pub joined : (digits shift d kept : ℕ) → digits < 2 ^ 53 → d ≡ 64 - count_leading_zeros 64 (digits / 2 ^ shift) - 11
    → kept ≡ closest digits (2 ^ (shift + d))
    → min (d * 1024 + kept) 31744 ≡ half_bits_of_units digits (2 ^ shift)
joined digits shift d kept h e k =
    let u = digits / 2 ^ shift in
    let l : u < 2 ^ 64 = lt_of_le_of_lt (div-le_self digits (2 ^ shift)) (lt_of_lt_of_le h (lit≤ tt)) in
    let f : d ≡ size u - 11 = e ∙ ap (λ (z : ℕ). z - 11) (size_is u l) in
    ap (λ (z : ℕ). min (d * 1024 + z) 31744) (k ∙ ap (λ (z : ℕ). closest digits z) (pow-add 2 shift d))
    ∙ ap (λ (z : ℕ). min (z * 1024 + closest digits (2 ^ shift * 2 ^ z)) 31744) f

-- ---- numbers that are far smaller or larger than a half

small : (digits t : ℕ) → digits < 2 ^ 53 → 63 ≤ t → half_bits_of_units digits (2 ^ t) ≡ 0
small digits t h g =
    let w : 2 ^ 63 ≤ 2 ^ t = pow_mono {i = 63} {j = t} g in
    let twice : digits * 2 < 2 ^ t = lt_of_lt_of_le (omega arith) w in
    let l : digits < 2 ^ t = omega arith in
    let u = div-eq_of_lt l in
    let k : size (digits / 2 ^ t) - 11 ≡ 0 = omega (arith, size-le (digits / 2 ^ t) 0 (omega arith)) in
    let c : closest digits (2 ^ t * 1) ≡ 0 = ap (closest digits) (mul-one (2 ^ t))
    ∙ sym (closest_below digits (2 ^ t) (subst (λ (r : ℕ). r * 2 < 2 ^ t) (sym (mod-eq_of_lt l)) twice)) ∙ u in
    ap (λ (z : ℕ). min (z * 1024 + closest digits (2 ^ t * 2 ^ z)) 31744) k ∙ ap (λ (z : ℕ). min (0 * 1024 + z) 31744) c

-- no more than 63 digits have to be cut off
capped : (digits t : ℕ) → digits < 2 ^ 53 → half_bits_of_units digits (2 ^ t) ≡ half_bits_of_units digits (2 ^ min t 63)
capped digits t h =
    elim (cases_Bool (ltb t 63)) [
      | inl e ↦ let l : min t 63 ≡ t = omega (arith, ltb-true t 63 e) in
          ap (λ (z : ℕ). half_bits_of_units digits (2 ^ z)) (sym l)
      | inr e ↦
          let g : 63 ≤ t = ltb-false t 63 e in
          let l : min t 63 ≡ 63 = omega arith in
          small digits t h g ∙ sym (small digits 63 h (lit≤ tt))
          ∙ ap (λ (z : ℕ). half_bits_of_units digits (2 ^ z)) (sym l)
    ]

far_away : (n d : ℕ) → 0 < d → 2 ^ 41 * d ≤ n → half_bits_of_units n d ≡ 31744
far_away n d p h =
    let s : 2 ^ 41 ≤ n / d = (le-div_iff_mul-le p).1 h in
    let k : 41 < size (n / d) = lt_of_not-le (λ (g : size (n / d) ≤ 41). not-le_of_lt
    (lt_of_lt_of_le (size-lt (n / d)) (pow_mono {i = size (n / d)} {j = 41} g)) s) in
    omega arith

-- ---- a double's bits

near_low : (a d t : ℕ) → a * 2 ^ 1074 ≡ t * 2 ^ 0 * d → a * 2 ^ 24 * 2 ^ 1050 ≡ t * d
near_low a d t h = mul_assoc a (2 ^ 24) (2 ^ 1050) ∙ h ∙ ap (λ (z : ℕ). z * d) (mul-one t)

near_high : (a d t j : ℕ) → j < 1040 → a * 2 ^ 1074 ≡ (2 ^ 52 + t) * 2 ^ j * d
    → a * 2 ^ 24 * 2 ^ (1050 - j) ≡ (2 ^ 52 + t) * d
near_high a d t j l h =
    let e : 1050 - j + j ≡ 1050 = omega arith in
    eq_of_mul-eq-mul_right (2 ^ j) (pow_pos j) (a * 2 ^ 24 * 2 ^ (1050 - j)) ((2 ^ 52 + t) * d)
    (mul_assoc (a * 2 ^ 24) (2 ^ (1050 - j)) (2 ^ j) ∙ ap (λ (z : ℕ). a * 2 ^ 24 * z)
    (sym (pow-add 2 (1050 - j) j) ∙ ap (λ (z : ℕ). 2 ^ z) e)
    ∙ mul_assoc a (2 ^ 24) (2 ^ 1050) ∙ h ∙ mul_right_comm (2 ^ 52 + t) (2 ^ j) d)

far_high : (a d t j : ℕ) → 1039 ≤ j → a * 2 ^ 1074 ≡ (2 ^ 52 + t) * 2 ^ j * d → 2 ^ 41 * d ≤ a * 2 ^ 24
far_high a d t j g h =
    let s : 2 ^ 52 * 2 ^ 1039 ≤ (2 ^ 52 + t) * 2 ^ j = mul-le-mul (le-add_right (2 ^ 52) t)
    (pow_mono {i = 1039} {j = j} g) in
    let x : 2 ^ 17 * d * 2 ^ 1074 ≤ a * 2 ^ 1074 = le_trans (le_of_eq (mul_right_comm (2 ^ 17) d (2 ^ 1074)))
    (le_trans (mul-le-mul_right d s) (le_of_eq (sym h))) in
    le_trans (le_of_eq (sym (mul_right_comm (2 ^ 17) d (2 ^ 24))))
    (mul-le-mul_right (2 ^ 24) (le_of_mul-le-mul_right x (pow_pos 1074)))

-- the fields of a finite double's bits give its nearest half
module _ (a d : ℕ) (p : 0 < d) where
  near_fields : (x t : ℕ) → t < 2 ^ 52 → x < 1040 → a * 2 ^ 1074 ≡ field_units binary64 x t * d
      → half_bits_of_units (a * 2 ^ 24) d ≡ half_bits_of_units (digits_of_bits (x * 2 ^ 52 + t))
      (2 ^ shift_of_bits (x * 2 ^ 52 + t))
  near_fields zero t h l e =
      let g : t < 2 ^ 52 = h in
      let b : 0 * 2 ^ 52 + t ≡ t = omega arith in
      let q : t / 2 ^ 52 ≡ 0 = div-eq_of_lt h in
      units_same (a * 2 ^ 24) d t (2 ^ 1050) p (pow_pos 1050) (near_low a d t e)
      ∙ capped t 1050 (lt_of_lt_of_le h (lit≤ tt))
      ∙ ap₂ (λ (u v : ℕ). half_bits_of_units u (2 ^ min (1051 - max v 1) 63))
      (ap (λ (c : Bool). cond c t (2 ^ 52 + t % 2 ^ 52)) (sym (lt-ltb t (2 ^ 52) h))) (sym q)
      ∙ ap (λ (z : ℕ). half_bits_of_units (digits_of_bits z) (2 ^ shift_of_bits z)) (sym b)
  near_fields (suc j) t h l e =
      let b = suc j * 2 ^ 52 + t in
      let c : 2 ^ 52 ≤ b = omega arith in
      let q : b / 2 ^ 52 ≡ suc j = omega arith in
      let r : b % 2 ^ 52 ≡ t = omega arith in
      let s : 1051 - max (suc j) 1 ≡ 1050 - j = omega arith in
      let w : 2 ^ 52 + t < 2 ^ 53 = omega arith in
      units_same (a * 2 ^ 24) d (2 ^ 52 + t) (2 ^ (1050 - j)) p (pow_pos (1050 - j)) (near_high a d t j (omega arith) e)
      ∙ capped (2 ^ 52 + t) (1050 - j) w
      ∙ ap₂ (λ (u v : ℕ). half_bits_of_units u (2 ^ min v 63))
      (sym (ap (λ (k : Bool). cond k b (2 ^ 52 + b % 2 ^ 52)) (le-ltb b (2 ^ 52) c) ∙ ap (λ (z : ℕ). 2 ^ 52 + z) r))
      (sym (ap (λ (z : ℕ). 1051 - max z 1) q ∙ s))

  far_fields : (x t : ℕ) → 1040 ≤ x → a * 2 ^ 1074 ≡ field_units binary64 x t * d
      → half_bits_of_units (a * 2 ^ 24) d ≡ 31744
  far_fields zero t l e = absurd (omega arith)
  far_fields (suc j) t l e = far_away (a * 2 ^ 24) d p (far_high a d t j (omega arith) e)

-- the bits of a finite double are below those of the infinity
bits_below : (m : ℕ) (e : ℤ) → T (fits binary64 (fin false m e)) → to_bits binary64 (fin false m e) < 2047 * 2 ^ 52
unfolding to_bits
bits_below m e t =
    let b = bounds binary64 false m e t in
    let n = m * up e * 2 ^ 1074 / down e in
    let l : n < 2 ^ 2098 = (div-lt_iff_lt-mul (down_pos e)).1
    (lt_of_lt_of_le (mul-lt-mul_of_pos_right b.most (pow_pos 1074))
    (le_of_eq (mul_right_comm (2 ^ 1024) (down e) (2 ^ 1074)))) in
    let k : size n ≤ 2098 = size-le n 2098 l in
    let w : n / 2 ^ (size n - 53) < 2 ^ 53 = kept-lt 53 n in
    omega arith

value_of_bits : (m : ℕ) (e : ℤ) (b : ℕ) → T (fits binary64 (fin false m e)) → b ≡ to_bits binary64 (fin false m e)
    → (b < 2047 * 2 ^ 52) × (m * up e * 2 ^ 1074 ≡ field_units binary64 (b / 2 ^ 52) (b % 2 ^ 52) * down e)
value_of_bits m e b t is =
    let l : b < 2047 * 2 ^ 52 = subst (λ (z : ℕ). z < 2047 * 2 ^ 52) (sym is) (bits_below m e t) in
    let s : b / 2 ^ 52 * 2 ^ 52 + b % 2 ^ 52 ≡ b = omega arith in
    let v = of_bits_value binary64 (b / 2 ^ 52) (b % 2 ^ 52) (omega arith) (omega arith) in (
      l,
      (subst (λ (z : Float). HasValue z false (field_units binary64 (b / 2 ^ 52) (b % 2 ^ 52)) (2 ^ 1074))
          (ap (of_bits binary64) (s ∙ is) ∙ of_bits-to_bits binary64 (fin false m e) t) v).1,
    )

pub nearest_finite : (x y : Float) (b size : ℕ) → T (not (is_nan x)) → float_is_infinite x ≡ false → T (fits binary64 y)
    → y ≡ float_with_sign false x → b ≡ to_bits binary64 y
    → (b < 1040 * 2 ^ 52 → size ≡ half_bits_of_units (digits_of_bits b) (2 ^ shift_of_bits b))
    → (1040 * 2 ^ 52 ≤ b → size ≡ 31744)
    → nearest_half x ≡ with_half_sign (is_sign_negative x) size
unfolding is_nan float_is_infinite float_with_sign is_sign_negative nearest_half
nearest_finite nan y b size n i t e is near far = absurd n
nearest_finite (inf s) y b size n i t e is near far = absurd (true≢false i)
nearest_finite (fin s m q) y b size n i t e is near far =
    let v = value_of_bits m q b (subst (λ (z : Float). T (fits binary64 z)) e t) (is ∙ ap (to_bits binary64) e) in
    let split : b / 2 ^ 52 * 2 ^ 52 + b % 2 ^ 52 ≡ b = omega arith in
    sym (ap (with_half_sign s)
    (elim (cases_Bool (ltb b (1040 * 2 ^ 52))) [
      | inl c ↦
          let l = ltb-true b (1040 * 2 ^ 52) c in
          near l ∙ sym (near_fields (m * up q) (down q) (down_pos q) (b / 2 ^ 52) (b % 2 ^ 52) (omega arith)
          (omega arith) v.1
          ∙ ap (λ (z : ℕ). half_bits_of_units (digits_of_bits z) (2 ^ shift_of_bits z)) split)
      | inr c ↦
          let g = ltb-false b (1040 * 2 ^ 52) c in
          far g ∙ sym (far_fields (m * up q) (down q) (down_pos q) (b / 2 ^ 52) (b % 2 ^ 52) (omega arith) v.1)
    ]))

pub nearest_infinite : (x : Float) → float_is_infinite x ≡ true
    → nearest_half x ≡ with_half_sign (is_sign_negative x) 31744
unfolding float_is_infinite is_sign_negative nearest_half
nearest_infinite nan i = absurd (true≢false (sym i))
nearest_infinite (inf s) i = refl
nearest_infinite (fin s m e) i = absurd (true≢false (sym i))

pub nearest_nan : (x : Float) → x ≡ nan → 0x7e00 ≡ nearest_half x
unfolding nearest_half
nearest_nan x e = sym (ap nearest_half e)

-- ---- a number that a half has is its own nearest half

closest_exact : (q u : ℕ) → 0 < u → closest (q * u) u ≡ q
closest_exact q u p = sym (closest_below (q * u) u (subst (λ (r : ℕ). r * 2 < u) (sym (mul-mod_left q u)) p))
    ∙ mul-div_cancel q p

size_at : (u n : ℕ) → 2 ^ n ≤ u → u < 2 ^ suc n → size u ≡ suc n
size_at u n a b =
    let s : n < size u = lt_of_not-le (λ (g : size u ≤ n). not-le_of_lt
    (lt_of_lt_of_le (size-lt u) (pow_mono {i = size u} {j = n} g)) a) in
    omega (arith, size-le u (suc n) b)

-- from what is kept of units that have no fraction
kept_is : (u k q : ℕ) → size u - 11 ≡ k → u ≡ q * 2 ^ k → half_bits_of_units u 1 ≡ min (k * 1024 + q) 31744
kept_is u k q s e =
    let d : size (u / 1) - 11 ≡ k = ap (λ (z : ℕ). size z - 11) (div-one u) ∙ s in
    ap (λ (z : ℕ). min (z * 1024 + closest u (1 * 2 ^ z)) 31744) d
    ∙ ap (λ (z : ℕ). min (k * 1024 + z) 31744) (ap₂ closest e (one-mul (2 ^ k)) ∙ closest_exact q (2 ^ k) (pow_pos k))

units_bits : (exponent fraction : ℕ) → exponent < 31 → fraction < 1024
    → half_bits_of_units (half_units exponent fraction) 1 ≡ exponent * 1024 + fraction
units_bits zero fraction e f =
    kept_is fraction 0 fraction (omega (arith, size-le fraction 10 f)) (sym (mul-one fraction)) ∙ omega arith
units_bits (suc k) fraction e f =
    let u = half_units (suc k) fraction in
    let n : u ≡ (1024 + fraction) * 2 ^ k = units_normal k fraction in
    let h : 1024 + fraction < 2 ^ 11 = omega arith in
    let g : 1024 ≤ 1024 + fraction = omega arith in
    let a : 2 ^ (10 + k) ≤ u = le_trans (le_of_eq (pow-add 2 10 k))
    (le_trans (mul-le-mul_right (2 ^ k) g) (le_of_eq (sym n))) in
    let b : u < 2 ^ (11 + k) = subst (λ (z : ℕ). z < 2 ^ (11 + k)) (sym n) (shl_lt {a = 1024 + fraction} 11 k h) in
    let c : suc (10 + k) ≡ 11 + k = omega arith in
    let z : size u - 11 ≡ k = omega (arith, size_at u (10 + k) a (subst (λ (y : ℕ). u < 2 ^ y) (sym c) b)) in
    kept_is u k (1024 + fraction) z n ∙ omega arith

nearest_own : (x : Float) (bits : ℕ) → is_nan x ≡ false → bits < 2 ^ 16 → half_value bits ≡ x → bits ≡ nearest_half x
unfolding is_nan nearest_half
nearest_own nan bits n h e = absurd (true≢false n)
nearest_own (inf t) bits n h e =
    elim (subst (Fields (nat_le 32768 bits) (bits % 32768 / 1024) (bits % 1024)) e (half_says bits h)) [
      | inl a ↦ let y : inf t ≡ nan = a.1 in cc
      | inr (inl a) ↦ let y : inf t ≡ inf (nat_le 32768 bits) = a.2 in signed bits 31744 t h (cc) (omega arith)
      | inr (inr a) ↦ absurd a.1
    ]
nearest_own (fin t m q) bits n h e =
    elim (subst (Fields (nat_le 32768 bits) (bits % 32768 / 1024) (bits % 1024)) e (half_says bits h)) [
      | inl a ↦ let y : fin t m q ≡ nan = a.1 in cc
      | inr (inl a) ↦ let y : fin t m q ≡ inf (nat_le 32768 bits) = a.2 in cc
      | inr (inr a) ↦
          let u = half_units (bits % 32768 / 1024) (bits % 1024) in
          let f : bits % 1024 < 1024 = omega arith in
          signed bits (half_bits_of_units (m * up q * 2 ^ 24) (down q)) t h a.1.0
          (sym (units_same (m * up q * 2 ^ 24) (down q) u 1 (down_pos q) (lit< tt) (mul-one (m * up q * 2 ^ 24) ∙ a.1.1)
          ∙ units_bits (bits % 32768 / 1024) (bits % 1024) a.0 f))
    ]

pub half_found : (x : Float) (bits : ℕ) → IsEncodingOf (Half bits) x → bits ≡ nearest_half x
half_found x bits h =
    elim (cases_Bool (is_nan x)) [
      | inl e ↦ let n = nan_is_nan x (sym e) in h.usual n ∙ nearest_nan x n
      | inr e ↦ nearest_own x bits e h.fits h.value
    ]

pub half_encodes : (x : Float) (bits : ℕ) → bits < 2 ^ 16 → half_value bits ≡ x → bits ≡ nearest_half x
    → IsEncodingOf (Half bits) x
half_encodes x bits h e f = record { fits = h; value = e; usual = λ n. f ∙ sym (nearest_nan x n) }

-- if a half is not the number, no other is
pub half_lacks : (x : Float) (bits other : ℕ) → bits ≡ nearest_half x → (half_value bits ≡ x → ⊥)
    → IsEncodingOf (Half other) x → ⊥
half_lacks x bits other e n h = n (ap half_value (e ∙ sym (half_found x other h)) ∙ h.value)
