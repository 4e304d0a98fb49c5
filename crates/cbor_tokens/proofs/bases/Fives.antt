-- In base 32, `base32` and `base32hex` write the same values (`fives`), each as a character of their alphabet, and then
-- `padding` times `=`. The values of a group are below 32 and give its bytes back.
use Rattle.std.proofs.Common.{◌≡◌, ℕ, ◌+◌, ◌-◌, ◌*◌, ◌/◌, ◌^◌, ◌<◌, ◌≤◌, List, [], ◌∷◌, ◌++◌, map, length, take}
use Rattle.std.proofs.Common.{replicate, slice_index, codes, refl, sym, ap, ◌∙◌, arith, lit<}
use Rattle.std.proofs.lemmas.Nat.{div_below, pow-add}
use Rattle.std.proofs.Math.Nat.{mul-div_cancel, one-le-pow}
use Rattle.std.specs.Int.Digits.{AllBelowBase, number_from_digits}
use Rattle.cbor_tokens.specs.AreBytes.{AreBytes}
use Rattle.cbor_tokens.specs.Base32.{characters, IsLastGroup, places, digit_count, forty_bits, encode_group, encode}
use Rattle.cbor_tokens.specs.Base32.{base32, base32hex}
use Rattle.cbor_tokens.specs.Base32.{Alphabet}
use Rattle.cbor_tokens.specs.Base32.{standard, extended_hex}
use Rattle.cbor_tokens.proofs.bases.Base32Groups.{few_digits, group_bits}
use Rattle.cbor_tokens.proofs.bases.Places.{length-places, AllBelowBase-places, number-places, places-number}
use Rattle.cbor_tokens.proofs.bases.Places.{take-places}

-- the values of the digits that hold a group's bits
abbrev pub group_values : List ℕ → List ℕ
group_values group = take (digit_count (length group)) (places 32 8 (forty_bits group))

-- the values of all digits
unfoldable pub fives : List ℕ → List ℕ
fives [] = []
fives (a ∷ b ∷ c ∷ d ∷ e ∷ bytes) = group_values (a ∷ b ∷ c ∷ d ∷ e ∷ []) ++ fives bytes
fives group = group_values group

-- how many characters of padding follow them
unfoldable pub padding : List ℕ → ℕ
padding [] = 0
padding (a ∷ b ∷ c ∷ d ∷ e ∷ bytes) = padding bytes
padding group = 8 - digit_count (length group)

encode_values : (alphabet : Alphabet) (bytes : List ℕ)
    → encode alphabet bytes ≡ map (slice_index (characters alphabet)) (fives bytes) ++ replicate (padding bytes) 61
unfolding encode fives padding
encode_values alphabet [] = refl
encode_values alphabet (a ∷ []) = refl
encode_values alphabet (a ∷ b ∷ []) = refl
encode_values alphabet (a ∷ b ∷ c ∷ []) = refl
encode_values alphabet (a ∷ b ∷ c ∷ d ∷ []) = refl
encode_values alphabet (a ∷ b ∷ c ∷ d ∷ e ∷ bytes) =
    ap (λ (digits : List ℕ). encode_group alphabet (a ∷ b ∷ c ∷ d ∷ e ∷ []) ++ digits) (encode_values alphabet bytes)

pub base32_values : (bytes : List ℕ) → base32 bytes ≡ map (slice_index (codes "ABCDEFGHIJKLMNOPQRSTUVWXYZ234567"))
    (fives bytes) ++ replicate (padding bytes) 61
base32_values bytes = encode_values standard bytes

pub base32hex_values : (bytes : List ℕ) → base32hex bytes ≡ map (slice_index (codes "0123456789ABCDEFGHIJKLMNOPQRSTUV"))
    (fives bytes) ++ replicate (padding bytes) 61
base32hex_values bytes = encode_values extended_hex bytes

-- ---- a group's bytes from its values

values_are : (group : List ℕ) (k : ℕ) → k ≤ 8
    → take k (places 32 8 (forty_bits group)) ≡ places 32 k (forty_bits group / 32 ^ (8 - k))
values_are group k few =
    let eight : 8 - k + k ≡ 8 = omega arith in
    ap (λ (n : ℕ). take k (places 32 n (forty_bits group))) (sym eight) ∙ take-places 32 k (8 - k) (forty_bits group)

pub values_below : (group : List ℕ) → length group ≤ 5 → AllBelowBase 32 (group_values group)
values_below group small =
    let k : ℕ = digit_count (length group) in
    rw (values_are group k (few_digits (length group) small))
    (AllBelowBase-places 32 k (forty_bits group / 32 ^ (8 - k)) (lit< tt))

-- the number that the values make, filled up with zero bits, is the group's forty bits
bits_again : (group : List ℕ) → IsLastGroup group → (length (group_values group) ≡ digit_count (length group))
    × (number_from_digits 32 (group_values group) * 32 ^ (8 - digit_count (length group)) ≡ forty_bits group)
bits_again group is =
    let k : ℕ = digit_count (length group) in
    let few : k ≤ 8 = few_digits (length group) is.2 in
    let bits = group_bits group is in
    let number : ℕ = forty_bits group / 32 ^ (8 - k) in
    let scaled : forty_bits group < 32 ^ k * 32 ^ (8 - k) =
    rw (← pow-add 32 k (8 - k)) (let whole : k + (8 - k) ≡ 8 = omega arith in rw whole bits.small) in
    let small : number < 32 ^ k = div_below (forty_bits group) (32 ^ (8 - k)) (32 ^ k) (one-le-pow (8 - k) 32 (lit< tt))
    scaled in (
      ap length (values_are group k few) ∙ length-places 32 k number,
      ap (λ (v : List ℕ). number_from_digits 32 v * 32 ^ (8 - k)) (values_are group k few)
          ∙ (ap (λ (n : ℕ). n * 32 ^ (8 - k)) (number-places 32 k number (lit< tt) small) ∙ bits.whole),
    )

bytes_again : (group : List ℕ) (n : ℕ) → n ≡ length group → n ≤ 5 → AreBytes group
    → take n (places 256 5 (number_from_digits 256 group * 256 ^ (5 - n))) ≡ group
bytes_again group n n_is few all =
    let number : ℕ = number_from_digits 256 group in
    let five : 5 - n + n ≡ 5 = omega arith in
    ap (λ (m : ℕ). take n (places 256 m (number * 256 ^ (5 - n)))) (sym five)
    ∙ (take-places 256 n (5 - n) (number * 256 ^ (5 - n))
    ∙ (ap (places 256 n) (mul-div_cancel number (one-le-pow (5 - n) 256 (lit< tt)))
    ∙ (ap (λ (m : ℕ). places 256 m number) n_is ∙ places-number 256 group (lit< tt) all)))

pub group_again : (group : List ℕ) → IsLastGroup group
    → let values = group_values group in take (5 * length values / 8)
    (places 256 5 (number_from_digits 32 values * 32 ^ (8 - length values))) ≡ group
group_again group is =
    let bits = bits_again group is in
    let count = (group_bits group is).count in
    rw (bits.0, bits.1, count) (bytes_again group (length group) refl is.2 is.0)
