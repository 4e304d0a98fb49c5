-- Digits in base 58 that do not begin with zero are the ones that `digits_of` finds for their number. So the text of
-- `base58_of` is a `1` for each leading zero byte, and then the characters of any such digits of the number that the
-- bytes encode.
use Rattle.std.proofs.Common.{◌≡◌, ℕ, ◌+◌, ◌*◌, ◌/◌, ◌%◌, ◌<◌, List, [], ◌∷◌, ◌++◌, map, replicate, slice_index, refl}
use Rattle.std.proofs.Common.{sym, ap, ◌∙◌, arith}
use Rattle.std.specs.Int.Digits.{AllBelowBase, digits_of, number_from_digits, number_from_digits_after}
use Rattle.std.proofs.lemmas.List.{append_assoc, append-nil}
use Rattle.std.proofs.lemmas.Int.Digits.{digits_of_step}
use Rattle.std.proofs.lemmas.Nat.{div-mul-add, mod-mul-add}
use Rattle.cbor_notes.specs.Base58.{HasNoLeadingZero, base58_of, characters, leading_zeros}

-- more digits after a number
digits_after : (number : ℕ) (digits : List ℕ) → 0 < number → AllBelowBase 58 digits
    → digits_of 58 (number_from_digits_after 58 number digits) ≡ digits_of 58 number ++ digits
digits_after number [] some all = sym (append-nil (digits_of 58 number))
digits_after number (d ∷ digits) some all =
    let next : ℕ = number * 58 + d in
    let more : 0 < next = omega arith in
    let step : digits_of 58 next ≡ digits_of 58 number ++ d ∷ [] =
    digits_of_step 58 next (omega arith) more
    ∙ rw (div-mul-add number 58 d all.0, mod-mul-add number 58 d all.0) refl in
    digits_after next digits more all.1 ∙ rw (step, append_assoc) refl

-- digits that do not begin with zero are those of their number
pub digits_of-number : (digits : List ℕ) → AllBelowBase 58 digits → HasNoLeadingZero digits
    → digits_of 58 (number_from_digits 58 digits) ≡ digits
digits_of-number [] all some = refl
digits_of-number (d ∷ digits) all some =
    let first : digits_of 58 d ≡ d ∷ [] =
    digits_of_step 58 d (omega arith) some ∙ (let high : d / 58 ≡ 0 = omega (arith, all.0) in let low : d % 58 ≡ d =
    omega (arith, all.0) in rw (high, low) refl) in
    let start : 0 * 58 + d ≡ d = omega arith in
    rw start (digits_after d digits some all.1 ∙ rw first refl)

-- so the text is known by any such digits of the number
pub base58_by_digits : (bytes text digits : List ℕ) → text ≡ base58_of bytes → AllBelowBase 58 digits
    → HasNoLeadingZero digits
    → number_from_digits 58 digits ≡ number_from_digits 256 bytes
    → text ≡ replicate (leading_zeros bytes) 49 ++ map (slice_index characters) digits
unfolding base58_of
base58_by_digits bytes text digits is all some same =
    let digits_are : digits_of 58 (number_from_digits 256 bytes) ≡ digits = ap (digits_of 58) (sym same)
    ∙ digits_of-number digits all some in
    is ∙ rw digits_are refl
