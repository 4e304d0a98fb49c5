-- `base16_of`: the bytes that hex digits encode, or `None`. `digits_value`: the value of two hex digits, as the tables
-- of `hex_digits.rt` have it; it is 256 or more if one of them is not a digit.
use Rattle.std.specs.Prelude.{ℕ, ◌+◌, ◌*◌, List, Option, Some, None, Result, Ok, Err}
use Rattle.hex.specs.Hex.{decode_of, hex_digit_value}
use Rattle.hex.specs.declared.error.FromHexError.{FromHexError}

abbrev pub base16_bytes : Result (List ℕ) FromHexError → Option (List ℕ)
base16_bytes (Ok bytes) = Some bytes
base16_bytes (Err e) = None

-- the bytes of these digits, two for each byte, or none
abbrev pub base16_of : List ℕ → Option (List ℕ)
base16_of digits = base16_bytes (decode_of digits)

-- a digit's value, as the first of a byte's two has it, or more than any byte
abbrev pub first_of : Option ℕ → ℕ
first_of (Some v) = 16 * v
first_of None = 256

-- a digit's value, or more than any byte
abbrev pub second_of : Option ℕ → ℕ
second_of (Some v) = v
second_of None = 256

-- the value of two digits, or more than any byte if one of them is no digit
abbrev pub digits_value : ℕ → ℕ → ℕ
digits_value first second = first_of (hex_digit_value first) + second_of (hex_digit_value second)
