-- The integers that dCBOR writes in place of floats, from -2^63 to 2^64 - 1 (dCBOR, numeric reduction).
use Rattle.std.specs.Prelude.{ℕ, ◌*◌, ◌/◌, ◌%◌, ◌^◌, Bool, ◌&&◌, Option, Some, None, ◌==◌, nat_le, nat_lt}
use Rattle.std.specs.Prelude.{if◌then◌else◌, from_bits}
use Rattle.std.specs.Float.Ieee.{Float, nan, inf, fin, binary64, up, down}
use Rattle.cbor_floats.specs.Preferred.{widened}
use Rattle.cbor_floats.specs.declared.float.EncodedFloat.{EncodedFloat}

-- an integer of this sign and this size that CBOR has in 64 bits, or, if it is below zero, in 63
abbrev pub in_range : Bool → ℕ → Bool
in_range negative n = if negative then nat_le n (2 ^ 63) else nat_lt n (2 ^ 64)

-- the fraction of this sign as an integer in the range, if it is one
abbrev pub whole : Bool → ℕ → ℕ → Option (Bool × ℕ)
whole negative a b = if (a % b == 0) && in_range negative (a / b) then Some (negative, a / b) else None

-- A finite number is m * 2 ^ e with its sign, and 2 ^ e is the fraction up e / down e.
abbrev pub integer_of : Float → Option (Bool × ℕ)
integer_of nan = None
integer_of (inf negative) = None
integer_of (fin negative m e) = whole negative (m * up e) (down e)

-- the number of a float, which is that of its double
abbrev pub number_of : EncodedFloat → Float
number_of float = from_bits binary64 (widened float)

-- the sign and the size of the integer that the float is, if it is one in the range; of -0.0 the size is 0, too
abbrev pub reduced : EncodedFloat → Option (Bool × ℕ)
reduced float = integer_of (number_of float)
