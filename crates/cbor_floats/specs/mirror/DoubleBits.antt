-- For `nearest.rt`: a finite double below 2^17 with a clear sign bit, in units of 2^-24, is `digits_of_bits` divided by
-- 2 to the power `shift_of_bits`. A shift past 63 is taken as 63, since both cut off all digits.
use Rattle.std.specs.Prelude.{ℕ, ◌+◌, ◌-◌, ◌/◌, ◌%◌, ◌^◌, min, max, nat_lt, if◌then◌else◌}

abbrev pub digits_of_bits : ℕ → ℕ
digits_of_bits bits = if nat_lt bits (2 ^ 52) then bits else 2 ^ 52 + bits % 2 ^ 52

-- 63 cut off as much as any larger shift, since there are at most 53 digits
abbrev pub shift_of_bits : ℕ → ℕ
shift_of_bits bits = min (1051 - max (bits / 2 ^ 52) 1) 63
