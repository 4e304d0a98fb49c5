-- Each half is also a single: if a half encodes a number (`IsEncodingOf`), a single encodes it. A half has fewer digits
-- than a single keeps, so rounding to a single (`round binary32`) does not change it.
use Rattle.std.proofs.Common.{◌≡◌, refl, inl, inr, ℕ, zero, suc, ◌+◌, ◌*◌, ◌/◌, ◌%◌, ◌^◌, ◌<◌, ◌≤◌, Bool, T, nat_le}
use Rattle.std.proofs.Common.{sym, ap, ◌∙◌, subst, arith, lit<, lit≤, lt_of_lt_of_le, pow-add, pow_mono, shl_lt}
use Rattle.std.proofs.Common.{mul_assoc, mul-one}
use lib.Ieee.{Float, binary32, binary64, fits, round, to_bits}
use lib.Ieee.Exact.{HasValue, round_exact}
use lib.Ieee.Fits.{fits_widens, round-fits}
use Rattle.cbor_floats.specs.Value.{half_units, half_value, IsEncodingOf}
use Rattle.cbor_floats.specs.declared.float.EncodedFloat.TheVariants.{Half, Single}
use Rattle.cbor_floats.proofs.Encodings.{single_encodes}
use Rattle.cbor_floats.proofs.Halves.{half_says, units_normal}
use Rattle.cbor_floats.proofs.Shorter.{half_fits}
use Rattle.cbor_floats.proofs.Values.{same_value}

-- few digits and a small exponent, in the units of a half
few_exact : (s : Bool) (q k : ℕ) → q < 2 ^ 11 → k ≤ 31
    → HasValue (round binary32 s (q * 2 ^ k) (2 ^ 24)) s (q * 2 ^ k) (2 ^ 24)
few_exact s q k few low =
    let e : 2 ^ (k + 125) * 2 ^ 24 ≡ 2 ^ k * 2 ^ 149 = sym (pow-add 2 (k + 125) 24)
    ∙ ap (λ (z : ℕ). 2 ^ z) (omega arith) ∙ pow-add 2 k 149 in
    round_exact binary32 s (q * 2 ^ k) (2 ^ 24) q (k + 125) (lit< tt) (lt_of_lt_of_le few (lit≤ tt))
    (lt_of_lt_of_le (shl_lt {a = q} 11 (k + 125) few) (pow_mono {i = 11 + (k + 125)} {j = 277} (omega arith)))
    (mul_assoc q (2 ^ k) (2 ^ 149) ∙ ap (λ (z : ℕ). q * z) (sym e) ∙ sym (mul_assoc q (2 ^ (k + 125)) (2 ^ 24)))

units_exact : (s : Bool) (exponent fraction : ℕ) → exponent < 31 → fraction < 1024
    → HasValue (round binary32 s (half_units exponent fraction) (2 ^ 24)) s (half_units exponent fraction) (2 ^ 24)
units_exact s zero fraction e f =
    subst (λ (u : ℕ). HasValue (round binary32 s u (2 ^ 24)) s u (2 ^ 24)) (mul-one fraction)
    (few_exact s fraction 0 (omega arith) (omega arith))
units_exact s (suc k) fraction e f =
    subst (λ (u : ℕ). HasValue (round binary32 s u (2 ^ 24)) s u (2 ^ 24)) (sym (units_normal k fraction))
    (few_exact s (1024 + fraction) k (omega arith) (omega arith))

single_holds : (bits : ℕ) → bits < 2 ^ 16 → T (fits binary32 (half_value bits))
unfolding fits
single_holds bits h =
    elim (half_says bits h) [
      | inl a ↦ subst (λ (x : Float). T (fits binary32 x)) (sym a.1) tt
      | inr (inl a) ↦ subst (λ (x : Float). T (fits binary32 x)) (sym a.2) tt
      | inr (inr a) ↦
          let s = nat_le 32768 bits in
          let u = half_units (bits % 32768 / 1024) (bits % 1024) in
          let y = round binary32 s u (2 ^ 24) in
          let t = round-fits binary32 s u (2 ^ 24) in
          subst (λ (x : Float). T (fits binary32 x))
          (same_value binary64 y (half_value bits) s u (2 ^ 24) (lit< tt) (fits_widens y t) (half_fits bits)
          (units_exact s (bits % 32768 / 1024) (bits % 1024) a.0 (omega arith)) a.1) t
    ]

pub half_in_single : (bits : ℕ) (x : Float) → IsEncodingOf (Half bits) x → IsEncodingOf (Single (to_bits binary32 x)) x
half_in_single bits x h =
    single_encodes x x (subst (λ (y : Float). T (fits binary32 y)) h.value (single_holds bits h.fits)) refl
