-- Floats of two widths are the same float if they are equal as doubles (`widened`). The preferred width of a float is
-- the shortest that can hold it (`IsPreferred`). `IsPreferredOf`, and `shorter` as a function, give the float in that
-- width, if it is shorter than its own. A NaN keeps its sign and its payload (RFC 8949 sections 4.1 and 4.2.2).
use Rattle.std.specs.Prelude.{◌≡◌, ◌≢◌, ℕ, ◌+◌, ◌*◌, ◌/◌, ◌%◌, ◌^◌, ◌<◌, Bool, ◌==◌, nat_le, if◌then◌else◌, Option}
use Rattle.std.specs.Prelude.{Some, None, from_bits, to_bits, is_nan}
use Rattle.std.specs.Float.{round_to_format}
use Rattle.std.specs.Float.Ieee.{Float, binary32, binary64}
use Rattle.cbor_floats.specs.declared.float.EncodedFloat.{EncodedFloat}
use Rattle.cbor_floats.specs.declared.float.EncodedFloat.TheVariants.{Half, Single, Double}
use Rattle.cbor_floats.specs.Nearest.{nearest_half}
use Rattle.cbor_floats.specs.Value.{half_value, width_of, size_of, bits_of}

-- the bits of a NaN in each width, by its sign and its fraction
abbrev pub half_nan : Bool → ℕ → ℕ
half_nan negative fraction = (if negative then 2 ^ 15 else 0) + (31 * 2 ^ 10 + fraction)

abbrev pub single_nan : Bool → ℕ → ℕ
single_nan negative fraction = (if negative then 2 ^ 31 else 0) + (255 * 2 ^ 23 + fraction)

abbrev pub double_nan : Bool → ℕ → ℕ
double_nan negative fraction = (if negative then 2 ^ 63 else 0) + (2047 * 2 ^ 52 + fraction)

-- the double of a number; of a NaN that with this sign and this fraction
abbrev pub double_of : Float → Bool → ℕ → ℕ
double_of x negative fraction = if is_nan x then double_nan negative fraction else to_bits binary64 x

-- The bits of the float as a double, which has each number and each NaN of a shorter width. The fraction of a NaN gets
-- zeros behind it.
unfoldable pub widened : EncodedFloat → ℕ
widened (Half bits) = double_of (half_value bits) (nat_le (2 ^ 15) bits) (bits % 2 ^ 10 * 2 ^ 42)
widened (Single bits) = double_of (from_bits binary32 bits) (nat_le (2 ^ 31) bits) (bits % 2 ^ 23 * 2 ^ 29)
widened (Double bits) = bits

-- the bits are as many as the width has
abbrev pub FitsWidth : EncodedFloat → Type 0
FitsWidth float = bits_of float < 2 ^ size_of (width_of float)

abbrev pub IsShorter : EncodedFloat → EncodedFloat → Type 0
IsShorter a b = size_of (width_of a) < size_of (width_of b)

-- no shorter width has the float
abbrev pub IsPreferred : EncodedFloat → Type 0
IsPreferred float = (other : EncodedFloat) → FitsWidth other → IsShorter other float → widened other ≢ widened float

-- the float in the width that is preferred for it, which is shorter
pub record IsPreferredOf (float preferred : EncodedFloat) : Type 0 where
  pub fits : FitsWidth preferred
  pub shorter : IsShorter preferred float
  pub same : widened preferred ≡ widened float
  pub is_preferred : IsPreferred preferred

-- ---- the same as a function

-- the half that is the double of these bits, if one is
unfoldable pub half_candidate : ℕ → ℕ
half_candidate bits =
    let x = from_bits binary64 bits in
    if is_nan x then half_nan (nat_le (2 ^ 63) bits) (bits % 2 ^ 52 / 2 ^ 42) else nearest_half x

-- the single that is the double of these bits, if one is
unfoldable pub single_candidate : ℕ → ℕ
single_candidate bits =
    let x = from_bits binary64 bits in
    if is_nan x then single_nan (nat_le (2 ^ 63) bits) (bits % 2 ^ 52 / 2 ^ 29)
    else to_bits binary32 (round_to_format binary32 x)

-- this float if it is the double of these bits, or else the other
abbrev pub same_or : EncodedFloat → ℕ → Option EncodedFloat → Option EncodedFloat
same_or float bits other = if widened float == bits then Some float else other

-- the float in the width that is preferred for it, if that is shorter
unfoldable pub shorter : EncodedFloat → Option EncodedFloat
shorter (Half bits) = None
shorter (Single bits) =
    let double = widened (Single bits) in same_or (Half (half_candidate double)) double None
shorter (Double bits) =
    same_or (Half (half_candidate bits)) bits (same_or (Single (single_candidate bits)) bits None)
