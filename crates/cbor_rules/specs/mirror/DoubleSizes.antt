-- For `reduced.rt`: the absolute value of a double, from its bits without the sign, if it is an integer below 2^64.
use Rattle.std.specs.Prelude.{ℕ, ◌/◌, ◌%◌, ◌^◌, Bool, ◌&&◌, Option, Some, None, ◌==◌, nat_lt, if◌then◌else◌}
use Rattle.std.specs.Float.MulAdd.{units_of_bits}
use Rattle.cbor_rules.specs.Reduced.{in_range}

-- the fraction, if it is an integer of 64 bits
unfoldable pub whole_size : ℕ → ℕ → Option ℕ
whole_size a b = if (a % b == 0) && nat_lt (a / b) (2 ^ 64) then Some (a / b) else None

-- A double is this many times 2 ^ -1074.
unfoldable pub size_of_bits : ℕ → Option ℕ
size_of_bits bits = whole_size (units_of_bits bits) (2 ^ 1074)

-- with its sign
abbrev pub signed : Bool → Option ℕ → Option (Bool × ℕ)
signed negative None = None
signed negative (Some n) = if in_range negative n then Some (negative, n) else None
