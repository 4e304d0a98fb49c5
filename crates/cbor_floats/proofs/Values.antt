-- Two floats that a format holds (`fits`) are equal if they have the same number (`HasValue`) or the same bits
-- (`to_bits`). Rounding to the format (`round_to_format`) does not change a float that it holds. The digits and the
-- exponent of such a float are within `Bounds`.
use Rattle.std.proofs.Common.{◌≡◌, ℕ, ℤ, ◌+◌, ◌-◌, ◌*◌, ◌/◌, ◌%◌, ◌^◌, ◌<◌, ◌≤◌, Bool, cond, T, ltb→lt, leb→le, pos}
use Rattle.std.proofs.Common.{negsuc, zero, suc, refl, sym, ap, ◌∙◌, subst, arith, eqb, ltb, leb, ◌&&◌, eqb→eq, lit<}
use Rattle.std.proofs.Common.{le_trans, le_of_eq, le_of_suc-le-suc, lt_of_not-le, zero-mul, mul-pos}
use Rattle.std.proofs.Common.{mul-lt-mul_of_pos_right, sub-add_cancel, mul_right_comm, mul_assoc, mul_comm, mul-one}
use Rattle.std.proofs.Common.{one-mul, lt_of_lt_of_le, pow-add, pow_pos}
use lib.Pow.{pow-lt}
use lib.Ieee.{Float, Format, nan, inf, fin, prec, low, emax, hid, top, up, down, size, round, fits, to_bits, of_bits}
use lib.Ieee.Bits.{of_bits-to_bits}
use lib.Ieee.Exact.{HasValue, round_exact}
use lib.Ieee.Fits.{down_pos, round-fits, and_l, and_r}
use lib.Ieee.Nearest.{div_same}
use Rattle.std.specs.Float.{round_to_format}

bits_of_number : (f : Format) (x : Float) (s : Bool) (a c : ℕ) → 0 < c → HasValue x s a c
    → to_bits f x ≡ cond s (top f) 0 + (size (a * 2 ^ low f / c) - prec f) * hid f + a * 2 ^ low f / c / 2 ^
    (size (a * 2 ^ low f / c) - prec f)
unfolding to_bits
bits_of_number f nan s a c p v = absurd v
bits_of_number f (inf t) s a c p v = absurd v
bits_of_number f (fin t m e) s a c p v =
    let l = 2 ^ low f in
    let cross : m * up e * l * c ≡ a * l * down e = mul_right_comm (m * up e) l c ∙ ap (λ (z : ℕ). z * l) v.1
    ∙ mul_right_comm a (down e) l in
    let n : m * up e * l / down e ≡ a * l / c = div_same (m * up e * l) (down e) (a * l) c (down_pos e) p cross in
    λ i. cond (v.0 i) (top f) 0 + (size (n i) - prec f) * hid f + n i / 2 ^ (size (n i) - prec f)

-- two floats that a format holds, with one number, are one
pub same_value : (f : Format) (x y : Float) (s : Bool) (a c : ℕ) → 0 < c → T (fits f x) → T (fits f y)
    → HasValue x s a c → HasValue y s a c → x ≡ y
same_value f x y s a c p t u v w =
    sym (of_bits-to_bits f x t) ∙ ap (of_bits f) (bits_of_number f x s a c p v ∙ sym (bits_of_number f y s a c p w))
    ∙ of_bits-to_bits f y u

-- two floats with one pattern of bits are one
pub same_bits : (f : Format) (x y : Float) → T (fits f x) → T (fits f y) → to_bits f x ≡ to_bits f y → x ≡ y
same_bits f x y t u e = sym (of_bits-to_bits f x t) ∙ ap (of_bits f) e ∙ of_bits-to_bits f y u

over : (a l : ℕ) → 2 ^ suc a ≤ 2 ^ l → suc a ≤ l
over a l h = le_of_suc-le-suc (lt_of_not-le (λ (g : suc l ≤ suc a). omega (arith, pow-lt g)))

-- what a format asks of its floats
pub record Bounds (f : Format) (m : ℕ) (e : ℤ) : Type 0 where
  pub digits : m < 2 ^ prec f
  pub least : down e ≤ 2 ^ low f
  pub most : m * up e < 2 ^ suc (emax f) * down e

zero_down : (f : Format) (e : ℤ) → up e * down e ≡ 1 → down e ≤ 2 ^ low f
zero_down f (pos k) h = pow_pos (low f)
zero_down f (negsuc k) h = le_trans (le_of_eq (sym (one-mul (2 ^ suc k)) ∙ h)) (pow_pos (low f))

pub bounds : (f : Format) (s : Bool) (m : ℕ) (e : ℤ) → T (fits f (fin s m e)) → Bounds f m e
unfolding fits
bounds f s zero e t = record {
  digits = pow_pos (prec f);
  least = zero_down f e (eqb→eq (up e * down e) 1 t);
  most = subst (λ (z : ℕ). z < 2 ^ suc (emax f) * down e) (sym (zero-mul (up e)))
      (mul-pos (pow_pos (suc (emax f))) (down_pos e));
}
bounds f s (suc m) e t =
    let a = eqb (suc m % 2) 1 in
    let b = ltb (suc m) (2 ^ prec f) in
    let c = leb (down e) (2 ^ low f) in
    let d = ltb (suc m * up e) (2 ^ suc (emax f) * down e) in
    record {
      digits = ltb→lt (suc m) (2 ^ prec f) (and_r a b (and_l (a && b) c (and_l (a && b && c) d t)));
      least = leb→le (down e) (2 ^ low f) (and_r (a && b) c (and_l (a && b && c) d t));
      most = ltb→lt (suc m * up e) (2 ^ suc (emax f) * down e) (and_r (a && b && c) d t);
    }

exact_at : (f : Format) (s : Bool) (m : ℕ) (e : ℤ) → Bounds f m e
    → HasValue (round f s (m * up e) (down e)) s (m * up e) (down e)
exact_at f s m (pos a) b =
    let l = low f in
    let j : m * 2 ^ (a + l) ≡ m * 2 ^ a * 2 ^ l = ap (λ (z : ℕ). m * z) (pow-add 2 a l)
    ∙ sym (mul_assoc m (2 ^ a) (2 ^ l)) in
    round_exact f s (m * 2 ^ a) 1 m (a + l) (lit< tt) b.digits
    (subst (λ (z : ℕ). z < 2 ^ (l + suc (emax f))) (sym j)
    (lt_of_lt_of_le (mul-lt-mul_of_pos_right b.most (pow_pos l))
    (le_of_eq (ap (λ (z : ℕ). z * 2 ^ l) (mul-one (2 ^ suc (emax f))) ∙ mul_comm (2 ^ suc (emax f)) (2 ^ l)
    ∙ sym (pow-add 2 l (suc (emax f)))))))
    (sym j ∙ sym (mul-one (m * 2 ^ (a + l))))
exact_at f s m (negsuc a) b =
    let l = low f in
    let i = l - suc a in
    let k : i + suc a ≡ l = sub-add_cancel (over a l b.least) in
    let e : 2 ^ l ≡ 2 ^ i * 2 ^ suc a = ap (λ (z : ℕ). 2 ^ z) (sym k) ∙ pow-add 2 i (suc a) in
    let x : 2 ^ suc (emax f) * 2 ^ suc a * 2 ^ i ≡ 2 ^ (l + suc (emax f)) =
    mul_assoc (2 ^ suc (emax f)) (2 ^ suc a) (2 ^ i) ∙ ap (λ (z : ℕ). 2 ^ suc (emax f) * z)
    (mul_comm (2 ^ suc a) (2 ^ i) ∙ sym e)
    ∙ mul_comm (2 ^ suc (emax f)) (2 ^ l) ∙ sym (pow-add 2 l (suc (emax f))) in
    round_exact f s (m * 1) (2 ^ suc a) m i (pow_pos (suc a)) b.digits
    (subst (λ (z : ℕ). z * 2 ^ i < 2 ^ (l + suc (emax f))) (mul-one m)
    (lt_of_lt_of_le (mul-lt-mul_of_pos_right b.most (pow_pos i)) (le_of_eq x)))
    (ap (λ (z : ℕ). z * 2 ^ l) (mul-one m) ∙ ap (λ (z : ℕ). m * z) e ∙ sym (mul_assoc m (2 ^ i) (2 ^ suc a)))

-- rounding changes nothing of a float that the format holds
pub round_to_format-own : (f : Format) (x : Float) → T (fits f x) → round_to_format f x ≡ x
unfolding round_to_format
round_to_format-own f nan t = refl
round_to_format-own f (inf s) t = refl
round_to_format-own f (fin s m e) t =
    same_value f (round f s (m * up e) (down e)) (fin s m e) s (m * up e) (down e) (down_pos e)
    (round-fits f s (m * up e) (down e)) t (exact_at f s m e (bounds f s m e t)) (refl, refl)
