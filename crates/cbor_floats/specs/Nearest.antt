-- The half that is nearest to a number; at a tie, the one whose last digit is 0 (IEEE 754 section 4.3.1).
use Rattle.std.specs.Prelude.{ℕ, ◌+◌, ◌-◌, ◌*◌, ◌/◌, ◌^◌, Bool, min, if◌then◌else◌}
use Rattle.std.specs.Float.Ieee.{Float, nan, inf, fin, size, up, down}
use Rattle.std.specs.Float.Ieee.Nearest.{closest}

-- The bits of the half nearest to num / den times 2 ^ -24, the least half above zero. Of the whole part it keeps eleven
-- digits and drops k, so
-- it is a multiple of 2 ^ k. The leading digit adds one to the field of the exponent. From 65520 on it is the infinity.
abbrev pub half_bits_of_units : ℕ → ℕ → ℕ
half_bits_of_units num den =
    let k = size (num / den) - 11 in
    min (k * 1024 + closest num (den * 2 ^ k)) 31744

abbrev pub with_half_sign : Bool → ℕ → ℕ
with_half_sign negative bits = if negative then 32768 + bits else bits

-- the bits of the half that is nearest to x
unfoldable pub nearest_half : Float → ℕ
nearest_half nan = 0x7e00
nearest_half (inf negative) = with_half_sign negative 31744
nearest_half (fin negative m e) = with_half_sign negative (half_bits_of_units (m * up e * 2 ^ 24) (down e))
