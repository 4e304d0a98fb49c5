-- The bits that `to_bits` gives for a number encode it as a double or a single (`IsEncodingOf`), if that width has the
-- number. A number has at most one encoding in each width. If a single encodes a number, rounding to a single
-- (`round_to_format`) does not change the number.
use Rattle.std.proofs.Common.{◌≡◌, ℕ, ◌*◌, ◌<◌, Bool, false, not, T, inl, inr, refl, sym, ap, ◌∙◌, subst}
use lib.Ieee.{Float, Format, nan, binary32, binary64, fits, is_nan, of_bits, to_bits, top}
use lib.Ieee.Bits.{of_bits-to_bits, of_bits-fits, to_bits-lt, to_bits-of_bits}
use Rattle.std.specs.Float.{round_to_format}
use Rattle.std.proofs.lemmas.Bool.{cases_Bool}
use Rattle.cbor_floats.specs.Value.{width_of, IsEncodingOf}
use Rattle.cbor_floats.specs.declared.float.EncodedFloat.{EncodedFloat}
use Rattle.cbor_floats.specs.declared.float.EncodedFloat.TheVariants.{Half, Single, Double}
use Rattle.cbor_floats.proofs.Values.{round_to_format-own}
use Rattle.cbor_floats.proofs.Halves.{nan_is_nan}
use Rattle.cbor_floats.proofs.Rounding.{half_found}

usual_single : to_bits binary32 nan ≡ 0x7fc0_0000
unfolding to_bits
usual_single = refl

usual_double : to_bits binary64 nan ≡ 0x7ff8_0000_0000_0000
unfolding to_bits
usual_double = refl

pub double_encodes : (x : Float) → T (fits binary64 x) → IsEncodingOf (Double (to_bits binary64 x)) x
double_encodes x t = record {
  fits = to_bits-lt binary64 x t;
  value = of_bits-to_bits binary64 x t;
  usual = λ e. ap (to_bits binary64) e ∙ usual_double;
}

pub single_encodes : (x y : Float) → T (fits binary32 y) → y ≡ x → IsEncodingOf (Single (to_bits binary32 y)) x
single_encodes x y t e = record {
  fits = to_bits-lt binary32 y t;
  value = of_bits-to_bits binary32 y t ∙ e;
  usual = λ n. ap (to_bits binary32) (e ∙ n) ∙ usual_single;
}

-- a number that a single has is its own nearest single
pub single_found : (x : Float) (bits : ℕ) → IsEncodingOf (Single bits) x → round_to_format binary32 x ≡ x
single_found x bits h = round_to_format-own binary32 x (subst (λ (z : Float). T (fits binary32 z)) h.value
    (of_bits-fits binary32 bits))

-- ---- in one width a number has one encoding

pattern_once : (f : Format) (x : Float) (a b : ℕ) → T (not (is_nan x)) → a < 2 * top f → b < 2 * top f → of_bits f a ≡ x
    → of_bits f b ≡ x → a ≡ b
pattern_once f x a b n h k u v =
    sym (to_bits-of_bits f a h (subst (λ (z : Float). T (not (is_nan z))) (sym u) n)) ∙ ap (to_bits f) (u ∙ sym v)
    ∙ to_bits-of_bits f b k (subst (λ (z : Float). T (not (is_nan z))) (sym v) n)

-- by whether it is a NaN
bits_once : (x : Float) (a b usual : ℕ) → (x ≡ nan → a ≡ usual) → (x ≡ nan → b ≡ usual) → (is_nan x ≡ false → a ≡ b)
    → a ≡ b
bits_once x a b usual p q r =
    elim (cases_Bool (is_nan x)) [ inl e ↦ let n = nan_is_nan x (sym e) in p n ∙ sym (q n) | inr e ↦ r e ]

not_nan : (x : Float) → is_nan x ≡ false → T (not (is_nan x))
not_nan x e = subst (λ (b : Bool). T (not b)) (sym e) tt

pub one_encoding : (x : Float) (a b : EncodedFloat) → IsEncodingOf a x → IsEncodingOf b x → width_of a ≡ width_of b
    → a ≡ b
one_encoding x (Half a) (Half b) h k w = ap Half (bits_once x a b 0x7e00 h.usual k.usual
    (λ _. half_found x a h ∙ sym (half_found x b k)))
one_encoding x (Single a) (Single b) h k w = ap Single (bits_once x a b 0x7fc0_0000 h.usual k.usual
    (λ n. pattern_once binary32 x a b (not_nan x n) h.fits k.fits h.value k.value))
one_encoding x (Double a) (Double b) h k w = ap Double (bits_once x a b 0x7ff8_0000_0000_0000 h.usual k.usual
    (λ n. pattern_once binary64 x a b (not_nan x n) h.fits k.fits h.value k.value))
one_encoding x (Half a) (Single b) h k w = cc
one_encoding x (Half a) (Double b) h k w = cc
one_encoding x (Single a) (Half b) h k w = cc
one_encoding x (Single a) (Double b) h k w = cc
one_encoding x (Double a) (Half b) h k w = cc
one_encoding x (Double a) (Single b) h k w = cc
