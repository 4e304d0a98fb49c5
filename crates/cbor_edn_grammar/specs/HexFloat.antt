-- Hexadecimal floats in EDN, written as in C, such as `0x1.8p3` (ISO C, section 6.4.4.2): the exact number that a text
-- stands for (`Dyadic`), and the float that is nearest to it (`rounded`).
use Rattle.std.specs.Prelude.{ℕ, ◌+◌, ◌*◌, ◌^◌, List, [], ◌∷◌, length, take, drop, position, codes, bytes_eq}
use Rattle.std.specs.Prelude.{Option, Some, None, Bool, ◌==◌, ◌&&◌, ◌||◌, if◌then◌else◌, nat_lt, is_some, false}
use Rattle.std.specs.Char.{digit_value}
use Rattle.std.specs.Float.Ieee.{Float, Format, round}
use Rattle.cbor_floats.specs.Decimal.{unsigned, is_negative}
use Rattle.cbor_edn_grammar.specs.Reading.{◌>>=◌, after_bytes}

-- the number that all of these digits of base 16 are after those of n
abbrev pub hex_run : ℕ → List ℕ → Option ℕ
hex_run n [] = Some n
hex_run n (b ∷ digits) = if nat_lt (digit_value b) 16 then hex_run (n * 16 + digit_value b) digits else None

-- the number that digits are without the point at this index, and how many of them are after it
abbrev pub digits_at : List ℕ → Option ℕ → Option (ℕ × ℕ)
digits_at digits None = hex_run 0 digits >>= λ n. Some (n, 0)
digits_at digits (Some at) = hex_run 0 (take at digits) >>= λ whole. hex_run whole (drop (at + 1) digits)
    >>= λ n. Some (n, length (drop (at + 1) digits))

-- the same, if there is at least one digit
abbrev pub hex_digits : List ℕ → Option (ℕ × ℕ)
hex_digits digits = if bytes_eq digits [] || bytes_eq digits (codes ".") then None
    else digits_at digits (position (λ b. b == 46) digits)

-- one more decimal digit of a number n, where it stays below 2 ^ 20
abbrev pub one_more : ℕ → ℕ → Option ℕ
one_more n digit = if nat_lt digit 10 && nat_lt (n * 10 + digit) (2 ^ 20) then Some (n * 10 + digit) else None

-- the number that all of these decimal digits are after those of n, below 2 ^ 20
abbrev pub small_run : ℕ → List ℕ → Option ℕ
small_run n [] = Some n
small_run n (b ∷ digits) = one_more n (digit_value b) >>= λ m. small_run m digits

-- the magnitude of an exponent: decimal digits, perhaps after a sign
abbrev pub exponent : List ℕ → Option ℕ
exponent text = if bytes_eq (unsigned text) [] then None else small_run 0 (unsigned text)

-- a number: its sign, and its magnitude, which is digits * 2 ^ up / 2 ^ down
pub record Dyadic : Type 0 where
  pub negative : Bool
  pub digits : ℕ
  pub up : ℕ
  pub down : ℕ

-- The float of this format that is nearest to a number, as IEEE 754 rounds: at a tie the one whose last digit is 0, an
-- infinity where the number is too large, and a zero where it is too small.
unfoldable pub rounded : Format → Dyadic → Float
rounded f x = round f x.negative (x.digits * 2 ^ x.up) (2 ^ x.down)

-- a number with this many of its digits after the point, times 2 to an exponent of this sign and magnitude
abbrev pub with_exponent : Bool → ℕ → ℕ → Bool → ℕ → Dyadic
with_exponent negative n places below size = record {
  negative = negative;
  digits = n;
  up = if below then 0 else size;
  down = 4 * places + (if below then size else 0);
}

-- digits with a `p` at this index
abbrev pub hex_at : Bool → List ℕ → Option ℕ → Option Dyadic
hex_at negative digits None = None
hex_at negative digits (Some at) = hex_digits (take at digits) >>= λ d. exponent (drop (at + 1) digits)
    >>= λ e. Some (with_exponent negative d.0 d.1 (is_negative (drop (at + 1) digits)) e)

abbrev pub is_p : ℕ → Bool
is_p b = (b == 112) || (b == 80)

-- what is after `0x`, which a sign may precede
abbrev pub after_hex : List ℕ → Option (List ℕ)
after_hex text = after_bytes (codes "0x") (unsigned text)

-- the number that a text writes
unfoldable pub hex_number : List ℕ → Option Dyadic
hex_number text = after_hex text >>= λ digits. hex_at (is_negative text) digits (position is_p digits)

abbrev pub has_p : Option (List ℕ) → Bool
has_p None = false
has_p (Some digits) = is_some (position is_p digits)

-- such a number by its form: `0x` and a `p`
unfoldable pub is_hex : List ℕ → Bool
is_hex text = has_p (after_hex text)
