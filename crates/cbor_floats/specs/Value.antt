-- The numbers that floats of 16, 32 and 64 bits stand for (IEEE 754 section 3.4: binary16, binary32 and binary64),
-- and their encodings. `Float` has the numbers of all formats, and one NaN without sign or payload: a half and a
-- double with the same number are the same `Float`.
use Rattle.std.specs.Prelude.{◌≡◌, ℕ, ◌+◌, ◌-◌, ◌*◌, ◌/◌, ◌%◌, ◌^◌, ◌<◌, Bool, ◌==◌, nat_le, if◌then◌else◌, from_bits}
use Rattle.std.specs.Float.Ieee.{Float, nan, inf, binary32, binary64, round}
use Rattle.cbor_floats.specs.declared.float.Width.{Width}
use Rattle.cbor_floats.specs.declared.float.Width.TheVariants.{Sixteen, ThirtyTwo, SixtyFour}
use Rattle.cbor_floats.specs.declared.float.EncodedFloat.{EncodedFloat}
use Rattle.cbor_floats.specs.declared.float.EncodedFloat.TheVariants.{Half, Single, Double}

-- A finite half in units of 2 ^ -24, the least of them above zero. An exponent of 0 has no leading digit, and counts as
-- 1.
abbrev pub half_units : ℕ → ℕ → ℕ
half_units exponent fraction = if exponent == 0 then fraction else (1024 + fraction) * 2 ^ (exponent - 1)

-- The number of these fields; a double has it, so `round` changes nothing.
abbrev pub half_of_fields : Bool → ℕ → ℕ → Float
half_of_fields negative exponent fraction =
    if exponent == 31 then (if fraction == 0 then inf negative else nan)
    else round binary64 negative (half_units exponent fraction) (2 ^ 24)

-- the number of a half: a sign, five bits of exponent, ten of fraction
unfoldable pub half_value : ℕ → Float
half_value bits = half_of_fields (nat_le 32768 bits) (bits % 32768 / 1024) (bits % 1024)

abbrev pub value_of : EncodedFloat → Float
value_of (Half bits) = half_value bits
value_of (Single bits) = from_bits binary32 bits
value_of (Double bits) = from_bits binary64 bits

abbrev pub width_of : EncodedFloat → Width
width_of (Half bits) = Sixteen
width_of (Single bits) = ThirtyTwo
width_of (Double bits) = SixtyFour

-- how many bits
abbrev pub size_of : Width → ℕ
size_of Sixteen = 16
size_of ThirtyTwo = 32
size_of SixtyFour = 64

abbrev pub bits_of : EncodedFloat → ℕ
bits_of (Half bits) = bits
bits_of (Single bits) = bits
bits_of (Double bits) = bits

-- the NaN that is quiet, with a clear sign and no payload
abbrev pub usual_nan : Width → ℕ
usual_nan Sixteen = 0x7e00
usual_nan ThirtyTwo = 0x7fc0_0000
usual_nan SixtyFour = 0x7ff8_0000_0000_0000

-- these are the bits for the number x in this width, and for a NaN the usual ones
pub record IsEncodingOf (float : EncodedFloat) (x : Float) : Type 0 where
  pub fits : bits_of float < 2 ^ size_of (width_of float)
  pub value : value_of float ≡ x
  pub usual : x ≡ nan → bits_of float ≡ usual_nan (width_of float)

-- no shorter width has the number
pub record IsShortest (float : EncodedFloat) (x : Float) : Type 0 where
  pub encodes : IsEncodingOf float x
  pub shortest : (other : EncodedFloat) → size_of (width_of other) < size_of (width_of float) → ¬ (IsEncodingOf other x)
