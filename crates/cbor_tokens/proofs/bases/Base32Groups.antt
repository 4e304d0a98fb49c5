-- For `whole_group` and `last_group` in `base32.rt`: eight characters encode a group of bytes (`encode_group`) if and
-- only if they are an allowed number of digits (`IsDigitCount`) that write its bits (`Writes`) and then only `=`, and
-- the bits that no byte uses are 0. The shift in `last_group` gives the `forty_bits` of the group.
use Rattle.std.proofs.Common.{◌≡◌, ℕ, ◌+◌, ◌-◌, ◌*◌, ◌/◌, ◌%◌, ◌^◌, ◌<◌, ◌≤◌, List, [], ◌∷◌, ◌++◌, map, length, take}
use Rattle.std.proofs.Common.{drop, replicate, slice_index, refl, sym, ap, ◌∙◌, inl, inr, arith, lit<}
use Rattle.std.proofs.lemmas.List.{length-map, length-take-le, take_at, drop_at, get_or-take, get_or-drop}
use Rattle.std.proofs.lemmas.List.{get_or-replicate, take-append-drop, take_all, append-nil}
use Rattle.std.proofs.lemmas.Nat.{div_below, pow-add}
use Rattle.std.proofs.lemmas.Bool.{cases_lt}
use Rattle.std.proofs.Math.Nat.{mul-div_cancel, one-le-pow, mul-one, div-one, mul-lt-mul_of_pos_right}
use Rattle.std.specs.Int.Digits.{number_from_digits}
use Rattle.cbor_tokens.specs.AreBytes.{AreBytes}
use Rattle.cbor_tokens.specs.Base32.{characters, Writes, IsLastGroup, IsDigitCount, places, digit_count, forty_bits}
use Rattle.cbor_tokens.specs.Base32.{encode_group}
use Rattle.cbor_tokens.specs.Base32.{Alphabet}
use Rattle.cbor_tokens.proofs.bases.Base32Alphabet.{no_equals_sign}
use Rattle.cbor_tokens.proofs.bases.Base32Numbers.{written_at, written-lt}
use Rattle.cbor_tokens.proofs.bases.Base32Padding.{digit_counts}
use Rattle.cbor_tokens.proofs.bases.Places.{length-places, AllBelowBase-places, number-places, places-number}
use Rattle.cbor_tokens.proofs.bases.Places.{take-places}

-- a group whose forty bits begin with the number that its digits write
pub encode_group_is : (a : Alphabet) (group digits : List ℕ) (number k : ℕ) → k ≡ digit_count (length group) → k ≤ 8
    → Writes a digits number → length digits ≡ k → number * 32 ^ (8 - k) ≡ forty_bits group
    → encode_group a group ≡ digits ++ replicate (8 - k) 61
encode_group_is a group digits number k k_is fits w len bits =
    let long : length w.values ≡ k = sym (length-map w.values (slice_index (characters a)))
    ∙ sym (ap length w.digits_are) ∙ len in
    let eight : 8 - k + k ≡ 8 = omega arith in
    let high : forty_bits group / 32 ^ (8 - k) ≡ number =
    rw (← bits) (mul-div_cancel number (one-le-pow (8 - k) 32 (lit< tt))) in
    let front : take k (places 32 8 (forty_bits group)) ≡ places 32 k number =
    ap (λ (n : ℕ). take k (places 32 n (forty_bits group))) (sym eight) ∙ take-places 32 k (8 - k) (forty_bits group)
    ∙ ap (places 32 k) high in
    let values : places 32 k number ≡ w.values =
    ap (places 32 k) w.number_is ∙ ap (λ (n : ℕ). places 32 n (number_from_digits 32 w.values)) (sym long)
    ∙ places-number 32 w.values (lit< tt) w.below in
    rw (← k_is, front, values, ← w.digits_are) refl

-- a group's forty bits, and the number of its digits
pub record GroupBits (group : List ℕ) : Type 0 where
  pub small : forty_bits group < 32 ^ 8
  pub whole : forty_bits group / 32 ^ (8 - digit_count (length group)) * 32 ^ (8 - digit_count (length group))
      ≡ forty_bits group
  pub unused : forty_bits group / 32 ^ (8 - digit_count (length group)) % 2 ^ (5 * digit_count (length group) % 8) ≡ 0
  pub count : 5 * digit_count (length group) / 8 ≡ length group

pub group_bits : (group : List ℕ) → IsLastGroup group → GroupBits group
group_bits [] is = absurd (omega (arith, is.1))
group_bits (a ∷ []) is = let fits = is.0.0 in record {
  small = omega arith;
  whole = omega arith;
  unused =
      omega arith;
  count = refl;
}
group_bits (a ∷ b ∷ []) is = let x = is.0.0 in let y =
    is.0.1.0 in record { small = omega arith; whole = omega arith; unused = omega arith; count = refl }
group_bits (a ∷ b ∷ c ∷ []) is = let x = is.0.0 in let y = is.0.1.0 in let z =
    is.0.1.1.0 in record { small = omega arith; whole = omega arith; unused = omega arith; count = refl }
group_bits (a ∷ b ∷ c ∷ d ∷ []) is = let x = is.0.0 in let y = is.0.1.0 in let z = is.0.1.1.0 in let w =
    is.0.1.1.1.0 in record { small = omega arith; whole = omega arith; unused = omega arith; count = refl }
group_bits (a ∷ b ∷ c ∷ d ∷ e ∷ []) is = let x = is.0.0 in let y = is.0.1.0 in let z = is.0.1.1.0 in let w =
    is.0.1.1.1.0 in let v = is.0.1.1.1.1.0 in record {
      small = omega arith;
      whole = omega arith;
      unused =
          omega arith;
      count = refl;
    }
group_bits (a ∷ b ∷ c ∷ d ∷ e ∷ f ∷ group) is = absurd (omega (arith, is.2))

-- what the characters of a group show
pub record GroupDigits (a : Alphabet) (group digits : List ℕ) (k : ℕ) : Type 0 where
  pub front : Writes a (take k digits) (forty_bits group / 32 ^ (8 - k))
  pub padding : drop k digits ≡ replicate (8 - k) 61
  pub few : k ≤ 8

pub few_digits : (m : ℕ) → m ≤ 5 → digit_count m ≤ 8
few_digits m small = omega arith

pub group_digits : (a : Alphabet) (group digits : List ℕ) (k : ℕ) → IsLastGroup group → k ≡ digit_count (length group)
    → digits ≡ encode_group a group → GroupDigits a group digits k
group_digits a group digits k is k_is digits_are =
    let few : k ≤ 8 = rw k_is (few_digits (length group) is.2) in
    let bits = group_bits group is in
    let number : ℕ = forty_bits group / 32 ^ (8 - k) in
    let eight : 8 - k + k ≡ 8 = omega arith in
    let values : take k (places 32 8 (forty_bits group)) ≡ places 32 k number =
    ap (λ (n : ℕ). take k (places 32 n (forty_bits group))) (sym eight) ∙ take-places 32 k (8 - k) (forty_bits group) in
    let front : List ℕ = map (slice_index (characters a)) (places 32 k number) in
    let long : length front ≡ k = length-map (places 32 k number) (slice_index (characters a))
    ∙ length-places 32 k number in
    let shown : digits ≡ front ++ replicate (8 - k) 61 = digits_are ∙ rw (← k_is, values) refl in
    let scaled : forty_bits group < 32 ^ k * 32 ^ (8 - k) =
    rw (← pow-add 32 k (8 - k)) (let whole : k + (8 - k) ≡ 8 = omega arith in rw whole bits.small) in
    record {
      front = record {
        values = places 32 k number;
        below = AllBelowBase-places 32 k number (lit< tt);
        digits_are = ap (take k) shown ∙ take_at front (replicate (8 - k) 61) k long;
        number_is = sym (number-places 32 k number (lit< tt)
            (div_below (forty_bits group) (32 ^ (8 - k)) (32 ^ k) (one-le-pow (8 - k) 32 (lit< tt)) scaled));
      };
      padding = ap (drop k) shown ∙ drop_at front (replicate (8 - k) 61) k long;
      few = few;
    }

-- the padding of a group begins where its digits end
pub unpadded_is : (a : Alphabet) (digits : List ℕ) (number r k : ℕ) → k ≤ 8 → length digits ≡ 8
    → Writes a (take k digits) number
    → drop r digits ≡ replicate (8 - r) 61 → r ≤ k → r ≡ k
unpadded_is a digits number r k few eight w padding low = elim (cases_lt r k) [
  | inl lt ↦
      let long : length (take k digits) ≡ k = length-take-le k digits (omega arith) in
      let last = written_at a (take k digits) number (k - 1) w (omega arith) in
      let there : slice_index (take k digits) (k - 1) ≡ slice_index digits (k - 1) =
      get_or-take k digits (k - 1) 0 (omega arith) in
      let place : r + (k - 1 - r) ≡ k - 1 = omega arith in
      let equals : slice_index digits (k - 1) ≡ 61 =
      ap (slice_index digits) (sym place) ∙ sym (get_or-drop r digits (k - 1 - r) 0)
      ∙ ap (λ (l : List ℕ). slice_index l (k - 1 - r)) padding
      ∙ get_or-replicate (8 - r) (k - 1 - r) 61 0 (omega arith) in
      absurd (no_equals_sign a last.0 last.1 (last.2 ∙ there ∙ equals))
  | inr ge ↦ omega arith
]

-- the bits that a last group does not use
pub unused_none : (n k : ℕ) → IsDigitCount k → n % 2 ^ (5 * k % 8) ≡ 0
    → n % (1 * 2 ^ (5 * k % 8) % 18446744073709551616) ≡ 0
unused_none n k is none = elim (digit_counts k is) [
  | inl e ↦ rw e (rw e at none)
  | inr more ↦ elim more [
    | inl e ↦ rw e (rw e at none)
    | inr more ↦ elim more [
      | inl e ↦ rw e (rw e at none)
      | inr more ↦ elim more [ inl e ↦ rw e (rw e at none) | inr e ↦ rw e (rw e at none) ]
    ]
  ]
]

pub shifted : (n k bits : ℕ) → IsDigitCount k → n * 32 ^ (8 - k) ≡ bits → bits < 32 ^ 8
    → n * 2 ^ (40 - 5 * k) % 18446744073709551616 ≡ bits
shifted n k bits is scaled small = elim (digit_counts k is) [
  | inl e ↦ let h = rw e at scaled in rw e (omega arith)
  | inr more ↦ elim more [
    | inl e ↦ let h = rw e at scaled in rw e (omega arith)
    | inr more ↦ elim more [
      | inl e ↦ let h = rw e at scaled in rw e (omega arith)
      | inr more ↦ elim more [
        | inl e ↦ let h = rw e at scaled in rw e (omega arith)
        | inr e ↦ let h = rw e at scaled in rw e (omega arith)
      ]
    ]
  ]
]

-- a last group that was read
abbrev pub IsRead : Alphabet → List ℕ → ℕ → ℕ → Type 0
IsRead a digits bits count = (group : List ℕ) × IsLastGroup group × (digits ≡ encode_group a group)
    × (bits ≡ forty_bits group) × (count ≡ length group)

from_number : (a : Alphabet) (digits : List ℕ) (n r m x : ℕ) → r ≡ digit_count m → 0 < m → m ≤ 5 → r ≤ 8
    → length digits ≡ 8
    → Writes a (take r digits) n → drop r digits ≡ replicate (8 - r) 61 → x < 256 ^ m
    → n * 32 ^ (8 - r) ≡ x * 256 ^ (5 - m)
    → IsRead a digits (n * 32 ^ (8 - r)) m
from_number a digits n r m x r_is some few fits eight w padding small same =
    let group : List ℕ = places 256 m x in
    let long : length group ≡ m = length-places 256 m x in
    let bits : n * 32 ^ (8 - r) ≡ forty_bits group = same ∙ rw (long, number-places 256 m x (lit< tt) small) refl in
    let is : IsLastGroup group = (AllBelowBase-places 256 m x (lit< tt), rw long some, rw long few) in
    let encoded : encode_group a group ≡ take r digits ++ replicate (8 - r) 61 =
    encode_group_is a group (take r digits) n r (rw long r_is) fits w (length-take-le r digits (omega arith)) bits in
    let shown : digits ≡ encode_group a group = sym (take-append-drop r digits)
    ∙ ap (λ (l : List ℕ). take r digits ++ l) padding ∙ sym encoded in
    (group, is, shown, bits, sym long)

-- five bytes have eight digits, which write their number
pub whole_digits : (a : Alphabet) (group digits : List ℕ) → AreBytes group → length group ≡ 5 → length digits ≡ 8
    → digits ≡ encode_group a group → Writes a digits (number_from_digits 256 group)
whole_digits a group digits bytes five eight is =
    let w = (group_digits a group digits 8 (bytes, omega arith, omega arith) (rw five refl) is).front in
    let all : take 8 digits ≡ digits = take_all 8 digits (omega arith) in
    let bits : forty_bits group ≡ number_from_digits 256 group = rw five (mul-one (number_from_digits 256 group)) in
    record {
      values = w.values;
      below = w.below;
      digits_are = sym all ∙ w.digits_are;
      number_is = sym (div-one (forty_bits group) ∙ bits) ∙ w.number_is;
    }

-- and eight digits encode the five bytes of their number
pub whole_encoded : (a : Alphabet) (group digits : List ℕ) (number : ℕ) → length group ≡ 5 → length digits ≡ 8
    → Writes a digits number → number_from_digits 256 group ≡ number → digits ≡ encode_group a group
whole_encoded a group digits number five eight w is =
    let bits : number * 32 ^ (8 - 8) ≡ forty_bits group = rw (five, is) refl in
    sym (encode_group_is a group digits number 8 (rw five refl) (omega arith) w eight bits ∙ append-nil digits)

-- the same, with the count and the bits as the code has them
read_at : (a : Alphabet) (digits : List ℕ) (n r m x : ℕ) → IsDigitCount r → r ≡ digit_count m → 5 * r / 8 ≡ m → 0 < m
    → m ≤ 5 → r ≤ 8
    → length digits ≡ 8 → n < 32 ^ r → Writes a (take r digits) n → drop r digits ≡ replicate (8 - r) 61
    → x < 256 ^ m → n * 32 ^ (8 - r) ≡ x * 256 ^ (5 - m)
    → IsRead a digits (n * 2 ^ (40 - 5 * r) % 18446744073709551616) (5 * r / 8)
read_at a digits n r m x is r_is count some few fits eight below w padding small same =
    let read = from_number a digits n r m x r_is some few fits eight w padding small same in
    let whole : r + (8 - r) ≡ 8 = omega arith in
    let scaled : n * 32 ^ (8 - r) < 32 ^ r * 32 ^ (8 - r) =
    mul-lt-mul_of_pos_right below (one-le-pow (8 - r) 32 (lit< tt)) in
    let bits : n * 32 ^ (8 - r) < 32 ^ 8 = rw (← pow-add 32 r (8 - r), whole) at scaled in
    (read.0, read.1, read.2, shifted n r (n * 32 ^ (8 - r)) is refl bits ∙ read.3, count ∙ read.4)

-- a last group that was read, from its digits
pub last_is_read : (a : Alphabet) (digits : List ℕ) (n r : ℕ) → IsDigitCount r → length digits ≡ 8
    → Writes a (take r digits) n → drop r digits ≡ replicate (8 - r) 61
    → n % (1 * 2 ^ (5 * r % 8) % 18446744073709551616) ≡ 0
    → IsRead a digits (n * 2 ^ (40 - 5 * r) % 18446744073709551616) (5 * r / 8)
last_is_read a digits n r is eight w padding unused =
    let few : r ≤ 8 = rw is.3 (few_digits is.0 is.2) in
    let below : n < 32 ^ r = rw (length-take-le r digits (omega arith)) at (written-lt a (take r digits) n w) in
    elim (digit_counts r is) [
      | inl e ↦ let h = rw e at unused in let b = rw e at below in
          read_at a digits n r 1 (n / 4) is (rw e refl) (rw e refl) (omega arith) (omega arith) few eight below w
          padding (omega arith) (rw e (omega arith))
      | inr more ↦ elim more [
        | inl e ↦ let h = rw e at unused in let b = rw e at below in
            read_at a digits n r 2 (n / 16) is (rw e refl) (rw e refl) (omega arith) (omega arith) few eight below w
            padding (omega arith) (rw e (omega arith))
        | inr more ↦ elim more [
          | inl e ↦ let h = rw e at unused in let b = rw e at below in
              read_at a digits n r 3 (n / 2) is (rw e refl) (rw e refl) (omega arith) (omega arith) few eight below w
              padding (omega arith) (rw e (omega arith))
          | inr more ↦ elim more [
            | inl e ↦ let h = rw e at unused in let b = rw e at below in
                read_at a digits n r 4 (n / 8) is (rw e refl) (rw e refl) (omega arith) (omega arith) few eight below w
                padding (omega arith) (rw e (omega arith))
            | inr e ↦ let h = rw e at unused in let b = rw e at below in
                read_at a digits n r 5 (n / 1) is (rw e refl) (rw e refl) (omega arith) (omega arith) few eight below w
                padding (omega arith) (rw e (omega arith))
          ]
        ]
      ]
    ]

-- what reading a last group has to find
pub record LastDigits (a : Alphabet) (group digits : List ℕ) (r : ℕ) : Type 0 where
  pub front : Writes a (take r digits) (forty_bits group / 32 ^ (8 - r))
  pub unused : forty_bits group / 32 ^ (8 - r) % (1 * 2 ^ (5 * r % 8) % 18446744073709551616) ≡ 0
  pub bits : forty_bits group / 32 ^ (8 - r) * 2 ^ (40 - 5 * r) % 18446744073709551616 ≡ forty_bits group
  pub count : 5 * r / 8 ≡ length group

pub last_digits : (a : Alphabet) (group digits : List ℕ) (r : ℕ) → IsLastGroup group → length digits ≡ 8
    → digits ≡ encode_group a group
    → IsDigitCount r → drop r digits ≡ replicate (8 - r) 61
    → ((count : ℕ) → IsDigitCount count → drop count digits ≡ replicate (8 - count) 61 → r ≤ count)
    → LastDigits a group digits r
last_digits a group digits r is eight digits_are r_is padding least =
    let k : ℕ = digit_count (length group) in
    let k_is : IsDigitCount k = (length group, is.1, is.2, refl) in
    let shown = group_digits a group digits k is refl digits_are in
    let bits = group_bits group is in
    let same : r ≡ k = unpadded_is a digits (forty_bits group / 32 ^ (8 - k)) r k shown.few eight shown.front padding
    (least k k_is shown.padding) in
    rw same (record {
      front = shown.front;
      unused = unused_none (forty_bits group / 32 ^ (8 - k)) k k_is bits.unused;
      bits = shifted (forty_bits group / 32 ^ (8 - k)) k (forty_bits group) k_is bits.whole bits.small;
      count = bits.count;
    })
