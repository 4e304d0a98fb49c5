-- The encoding of bytes in base 32, in the standard and the extended hex alphabet (RFC 4648, sections 6 and 7).
use Rattle.std.specs.Prelude.{◌≡◌, ℕ, zero, suc, ◌+◌, ◌-◌, ◌*◌, ◌/◌, ◌%◌, ◌^◌, ◌<◌, ◌≤◌, List, [], ◌∷◌, ◌++◌, map, take}
use Rattle.std.specs.Prelude.{replicate, length, slice_index, codes}
use Rattle.std.specs.Int.Digits.{AllBelowBase, number_from_digits}
use Rattle.cbor_tokens.specs.AreBytes.{AreBytes}
use Rattle.cbor_tokens.specs.Ascii.{equals_sign}

-- the alphabet of section 6, and that of section 7
pub data Alphabet : Type 0 where
  standard : Alphabet
  extended_hex : Alphabet

-- the 32 characters of an alphabet, at their values of five bits
abbrev pub characters : Alphabet → List ℕ
characters standard = codes "ABCDEFGHIJKLMNOPQRSTUVWXYZ234567"
characters extended_hex = codes "0123456789ABCDEFGHIJKLMNOPQRSTUV"

-- these digits write this number in base 32, the first one highest
pub record Writes (alphabet : Alphabet) (digits : List ℕ) (number : ℕ) : Type 0 where
  pub values : List ℕ
  pub below : AllBelowBase 32 values
  pub digits_are : digits ≡ map (slice_index (characters alphabet)) values
  pub number_is : number ≡ number_from_digits 32 values

-- the count lowest digits of a number in a base, the highest first
abbrev pub places : ℕ → ℕ → ℕ → List ℕ
places base zero number = []
places base (suc count) number = places base count (number / base) ++ (number % base ∷ [])

-- a group of one to five bytes as forty bits, filled up with zero bits on the right
abbrev pub forty_bits : List ℕ → ℕ
forty_bits group = number_from_digits 256 group * 256 ^ (5 - length group)

-- how many digits of five bits it takes to hold a number of bytes
abbrev pub digit_count : ℕ → ℕ
digit_count bytes = (8 * bytes + 4) / 5

-- numbers of digits that hold one to five bytes
abbrev pub IsDigitCount : ℕ → Type 0
IsDigitCount count = (bytes : ℕ) × (0 < bytes) × (bytes ≤ 5) × (count ≡ digit_count bytes)

-- the eight characters of a group: the digits that hold its bits, and `=` for the others
abbrev pub encode_group : Alphabet → List ℕ → List ℕ
encode_group alphabet group =
    map (slice_index (characters alphabet)) (take (digit_count (length group)) (places 32 8 (forty_bits group)))
    ++ replicate (8 - digit_count (length group)) equals_sign

-- one to five bytes
abbrev pub IsLastGroup : List ℕ → Type 0
IsLastGroup group = AreBytes group × (0 < length group) × (length group ≤ 5)

-- the encoding of bytes: that of each group of five; the last group may be shorter
unfoldable pub encode : Alphabet → List ℕ → List ℕ
encode alphabet [] = []
encode alphabet (a ∷ b ∷ c ∷ d ∷ e ∷ bytes) = encode_group alphabet (a ∷ b ∷ c ∷ d ∷ e ∷ []) ++ encode alphabet bytes
encode alphabet group = encode_group alphabet group

-- the encoding in the alphabet of section 6
abbrev pub base32 : List ℕ → List ℕ
base32 = encode standard

-- the encoding in the extended hex alphabet of section 7
abbrev pub base32hex : List ℕ → List ℕ
base32hex = encode extended_hex
