-- `base58_of`: the text of bytes in base 58, with the alphabet of Bitcoin's addresses, which has no `0`, `I`, `O` or
-- `l`.
use Rattle.std.specs.Prelude.{ℕ, ◌==◌, ◌<◌, List, [], ◌∷◌, ◌++◌, map, replicate, length, take_while, slice_index, codes}
use Rattle.std.specs.Int.Digits.{digits_of, number_from_digits}
use Rattle.cbor_tokens.specs.Ascii.{digit_one}

-- the 58 characters, at their values
abbrev pub characters : List ℕ
characters = codes "123456789ABCDEFGHJKLMNPQRSTUVWXYZabcdefghijkmnopqrstuvwxyz"

-- how many zero bytes come first
abbrev pub leading_zeros : List ℕ → ℕ
leading_zeros bytes = length (take_while (λ byte. byte == 0) bytes)

-- one `1` for each leading zero byte, and then the base 58 digits of the number that the bytes encode, the first byte
-- highest; the highest digit comes first, and zero has no digits
unfoldable pub base58_of : List ℕ → List ℕ
base58_of bytes =
    replicate (leading_zeros bytes) digit_one
    ++ map (slice_index characters) (digits_of 58 (number_from_digits 256 bytes))

-- the digits are none, or the first one is not zero
abbrev pub HasNoLeadingZero : List ℕ → Type 0
HasNoLeadingZero [] = Unit {0}
HasNoLeadingZero (digit ∷ digits) = 0 < digit
