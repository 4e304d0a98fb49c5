-- The digits of the base 32 alphabet `standard` are A to Z and then 2 to 7, those of `extended_hex` are 0 to 9 and then
-- A to V, and the place of a digit is its value. No two values have the same digit, and `=` is no digit.
use Rattle.std.proofs.Common.{◌≡◌, ◌≢◌, ℕ, ◌+◌, ◌-◌, ◌<◌, ◌≤◌, ◌++◌, length, slice_index, ◌∙◌, ◌⊎◌, inl, inr, arith}
use Rattle.std.specs.List.{range_with_len}
use Rattle.std.proofs.lemmas.List.{get_or_append_left, get_or-append_right}
use Rattle.std.proofs.lemmas.List.FromFn.{get_or-range_with_len, length-range_with_len}
use Rattle.std.proofs.lemmas.Bool.{cases_lt}
use Rattle.cbor_tokens.specs.Base32.{characters}
use Rattle.cbor_tokens.specs.Base32.{Alphabet}
use Rattle.cbor_tokens.specs.Base32.{standard, extended_hex}

-- a row of m characters from code a on, and then one of n from code b on
two_ranges : (a m b n v : ℕ) → v < m + n
    → ((v < m) × (slice_index (range_with_len a m ++ range_with_len b n) v ≡ a + v))
    ⊎ ((m ≤ v) × (slice_index (range_with_len a m ++ range_with_len b n) v ≡ b + (v - m)))
two_ranges a m b n v small = elim (cases_lt v m) [
  | inl lt ↦ inl (
    lt,
    let fits : v < length (range_with_len a m) = rw length-range_with_len lt in
        get_or_append_left (range_with_len a m) (range_with_len b n) 0 v fits ∙ get_or-range_with_len a m v 0 lt,
  )
  | inr ge ↦ inr (
    ge,
    get_or-append_right (range_with_len a m) (range_with_len b n) m v 0 (length-range_with_len a m) ge
        ∙ get_or-range_with_len b n (v - m) 0 (omega arith),
  )
]

-- `A` to `Z`, and then `2` to `7`
pub standard_at : (v : ℕ) → v < 32
    → ((v < 26) × (slice_index (characters standard) v ≡ 65 + v))
    ⊎ ((26 ≤ v) × (slice_index (characters standard) v ≡ 50 + (v - 26)))
standard_at v small = two_ranges 65 26 50 6 v small

-- `0` to `9`, and then `A` to `V`
pub extended_hex_at : (v : ℕ) → v < 32
    → ((v < 10) × (slice_index (characters extended_hex) v ≡ 48 + v))
    ⊎ ((10 ≤ v) × (slice_index (characters extended_hex) v ≡ 65 + (v - 10)))
extended_hex_at v small = two_ranges 48 10 65 22 v small

-- no digit is `=`
pub no_equals_sign : (a : Alphabet) (v : ℕ) → v < 32 → slice_index (characters a) v ≢ 61
no_equals_sign standard v small is = elim (standard_at v small)
    [ inl w ↦ omega (arith, w.0, w.1, is) | inr w ↦ omega (arith, w.0, w.1, is) ]
no_equals_sign extended_hex v small is = elim (extended_hex_at v small)
    [ inl w ↦ omega (arith, w.0, w.1, is) | inr w ↦ omega (arith, w.0, w.1, is) ]

-- the value of a digit of the standard alphabet
pub standard_letter : (v d : ℕ) → v < 32 → slice_index (characters standard) v ≡ d → 65 ≤ d → d ≤ 90 → d - 65 ≡ v
standard_letter v d small is low high = elim (standard_at v small)
    [ inl w ↦ omega (arith, w.0, w.1, is) | inr w ↦ omega (arith, w.0, w.1, is) ]

pub standard_figure : (v d : ℕ) → v < 32 → slice_index (characters standard) v ≡ d → 50 ≤ d → d ≤ 55 → d - 50 + 26 ≡ v
standard_figure v d small is low high = elim (standard_at v small)
    [ inl w ↦ omega (arith, w.0, w.1, is) | inr w ↦ omega (arith, w.0, w.1, is) ]

pub standard_other : (v d : ℕ) → v < 32 → slice_index (characters standard) v ≡ d
    → ((65 ≤ d) × (d ≤ 90)) ⊎ ((50 ≤ d) × (d ≤ 55))
standard_other v d small is = elim (standard_at v small) [
  | inl w ↦ inl (omega (arith, w.0, w.1, is), omega (arith, w.0, w.1, is))
  | inr w ↦ inr (omega (arith, w.0, w.1, is), omega (arith, w.0, w.1, is))
]

-- the value of a digit of the extended hex alphabet
pub hex_letter : (v d : ℕ) → v < 32 → slice_index (characters extended_hex) v ≡ d → 65 ≤ d → d ≤ 86 → d - 65 + 10 ≡ v
hex_letter v d small is low high = elim (extended_hex_at v small)
    [ inl w ↦ omega (arith, w.0, w.1, is) | inr w ↦ omega (arith, w.0, w.1, is) ]

pub hex_figure : (v d : ℕ) → v < 32 → slice_index (characters extended_hex) v ≡ d → 48 ≤ d → d ≤ 57 → d - 48 ≡ v
hex_figure v d small is low high = elim (extended_hex_at v small)
    [ inl w ↦ omega (arith, w.0, w.1, is) | inr w ↦ omega (arith, w.0, w.1, is) ]

pub hex_other : (v d : ℕ) → v < 32 → slice_index (characters extended_hex) v ≡ d
    → ((48 ≤ d) × (d ≤ 57)) ⊎ ((65 ≤ d) × (d ≤ 86))
hex_other v d small is = elim (extended_hex_at v small) [
  | inl w ↦ inl (omega (arith, w.0, w.1, is), omega (arith, w.0, w.1, is))
  | inr w ↦ inr (omega (arith, w.0, w.1, is), omega (arith, w.0, w.1, is))
]

-- the digit of a value
pub standard_letter_at : (d : ℕ) → 65 ≤ d → d ≤ 90 → slice_index (characters standard) (d - 65) ≡ d
standard_letter_at d low high = elim (standard_at (d - 65) (omega arith))
    [ inl w ↦ omega (arith, w.0, w.1) | inr w ↦ omega (arith, w.0, w.1) ]

pub standard_figure_at : (d : ℕ) → 50 ≤ d → d ≤ 55 → slice_index (characters standard) (d - 50 + 26) ≡ d
standard_figure_at d low high = elim (standard_at (d - 50 + 26) (omega arith))
    [ inl w ↦ omega (arith, w.0, w.1) | inr w ↦ omega (arith, w.0, w.1) ]

pub hex_letter_at : (d : ℕ) → 65 ≤ d → d ≤ 86 → slice_index (characters extended_hex) (d - 65 + 10) ≡ d
hex_letter_at d low high = elim (extended_hex_at (d - 65 + 10) (omega arith))
    [ inl w ↦ omega (arith, w.0, w.1) | inr w ↦ omega (arith, w.0, w.1) ]

-- one value has one character
pub same_value : (a : Alphabet) (v w : ℕ) → v < 32 → w < 32
    → slice_index (characters a) v ≡ slice_index (characters a) w → v ≡ w
same_value standard v w sv sw is = elim (standard_at v sv) [
  | inl x ↦ elim (standard_at w sw) [
    | inl y ↦ omega (arith, x.0, x.1, y.0, y.1, is)
    | inr y ↦ omega
        (arith, x.0, x.1, y.0, y.1, is)
  ]
  | inr x ↦ elim (standard_at w sw) [
    | inl y ↦ omega (arith, x.0, x.1, y.0, y.1, is)
    | inr y ↦ omega
        (arith, x.0, x.1, y.0, y.1, is)
  ]
]
same_value extended_hex v w sv sw is = elim (extended_hex_at v sv) [
  | inl x ↦ elim (extended_hex_at w sw) [
    | inl y ↦ omega (arith, x.0, x.1, y.0, y.1, is)
    | inr y ↦ omega
        (arith, x.0, x.1, y.0, y.1, is)
  ]
  | inr x ↦ elim (extended_hex_at w sw) [
    | inl y ↦ omega (arith, x.0, x.1, y.0, y.1, is)
    | inr y ↦ omega
        (arith, x.0, x.1, y.0, y.1, is)
  ]
]
