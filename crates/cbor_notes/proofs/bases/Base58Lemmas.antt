-- For `push_digits` and `push_base58`: the base 58 digits of a number above 0 are those of the number divided by 58,
-- and then the remainder. Sixteen bytes, read as a `u128`, are the number that `number_from_digits` finds, and all base
-- 58 characters are ASCII.
use Rattle.std.proofs.Common.{◌≡◌, ℕ, ◌<◌, ◌/◌, ◌%◌, List, [], ◌∷◌, ◌++◌, map, slice_index, length, subst, refl, ap}
use Rattle.std.proofs.Common.{◌∙◌, sym, arith}
use Rattle.std.proofs.lemmas.Int.Digits.{digits_of_step}
use Rattle.std.proofs.lemmas.List.{map-append}
use Rattle.std.proofs.NetLemmas.Arrays.{sixteen_items}
use Rattle.std.specs.Int.{from_be_bytes, w128}
use Rattle.std.specs.Int.Digits.{digits_of, number_from_digits}
use Rattle.std.specs.Str.{IsAscii}
use Rattle.cbor_notes.specs.Base58.{characters}
use Rattle.cbor_tokens.proofs.texts.HexLemmas.{IsAscii-from_test}

-- the last digit comes last
pub base58_step : (n : ℕ) → 0 < n → map (slice_index characters) (digits_of 58 n) ≡ map (slice_index characters)
    (digits_of 58 (n / 58)) ++ slice_index characters (n % 58) ∷ []
base58_step n some = ap (map (slice_index characters)) (digits_of_step 58 n (omega arith) some) ∙ map-append _ _ _

-- the characters are ASCII
pub characters_ascii : IsAscii characters
characters_ascii = IsAscii-from_test characters refl

-- sixteen bytes as a number, by their names
number_listed : (b0 b1 b2 b3 b4 b5 b6 b7 b8 b9 b10 b11 b12 b13 b14 b15 : ℕ)
    → from_be_bytes w128 (b0 ∷ b1 ∷ b2 ∷ b3 ∷ b4 ∷ b5 ∷ b6 ∷ b7 ∷ b8 ∷ b9 ∷ b10 ∷ b11 ∷ b12 ∷ b13 ∷ b14 ∷ b15 ∷ [])
    ≡ number_from_digits 256 (b0 ∷ b1 ∷ b2 ∷ b3 ∷ b4 ∷ b5 ∷ b6 ∷ b7 ∷ b8 ∷ b9 ∷ b10 ∷ b11 ∷ b12 ∷ b13 ∷ b14 ∷ b15 ∷ [])
number_listed b0 b1 b2 b3 b4 b5 b6 b7 b8 b9 b10 b11 b12 b13 b14 b15 = omega arith

-- sixteen bytes as a number
pub from_be_bytes-digits : (bytes : List ℕ) → length bytes ≡ 16
    → from_be_bytes w128 bytes ≡ number_from_digits 256 bytes
from_be_bytes-digits bytes sixteen =
    let P : List ℕ → Type 0 = λ b. from_be_bytes w128 b ≡ number_from_digits 256 b in
    subst P (sym (sixteen_items bytes sixteen)) (number_listed _ _ _ _ _ _ _ _ _ _ _ _ _ _ _ _)
