-- The hex digits of bytes (`encode_lower`) are ASCII, two for each byte. Digits that are appended byte by byte or piece
-- by piece are the digits of all the bytes. Bytes that are all below 128 are ASCII.
use Rattle.std.proofs.Common.{◌≡◌, ℕ, ◌/◌, ◌%◌, slice_index, true, ltb, eqb, eqb-true, List, [], ◌∷◌, ◌++◌, length}
use Rattle.std.proofs.Common.{get_or, refl, sym, ap, ◌∙◌, append_assoc, arith}
use Rattle.std.proofs.lemmas.Bool.Decides.{nat_tests}
use Rattle.std.proofs.lemmas.List.{append-nil}
use Rattle.std.proofs.lemmas.Str.Ascii.{IsAscii-nil, IsAscii-cons}
use Rattle.std.specs.List.{list_all}
use Rattle.std.specs.Str.{IsAscii}
use Rattle.hex.specs.Hex.{encode_lower, encode_with, lower_digits}
use Rattle.hex.proofs.HexLemmas.{IsAscii-encode_with}
use Rattle.std.proofs.lemmas.List.{append_assoc}

-- the digits of two lists that are joined
pub encode_with-append : (t xs ys : List ℕ) → encode_with t (xs ++ ys) ≡ encode_with t xs ++ encode_with t ys
unfolding encode_with
encode_with-append t [] ys = refl
encode_with-append t (x ∷ xs) ys =
    ap (λ (l : List ℕ). slice_index t (x / 16) ∷ slice_index t (x % 16) ∷ l) (encode_with-append t xs ys)

-- bytes that pass a test of each are ASCII
pub IsAscii-from_test : (bs : List ℕ) → list_all (λ b. ltb b 128) bs ≡ true → IsAscii bs
IsAscii-from_test [] h = IsAscii-nil
IsAscii-from_test (b ∷ bs) h =
    IsAscii-cons b bs (grind (arith, nat_tests)) (IsAscii-from_test bs (grind (arith, nat_tests)))

-- hex digits are ASCII
pub IsAscii-encode_lower : (bs : List ℕ) → IsAscii (encode_lower bs)
IsAscii-encode_lower bs = IsAscii-encode_with lower_digits bs (IsAscii-from_test lower_digits refl)

-- a byte has two digits
pub encode_lower-byte : (b : ℕ) (digits : List ℕ) → digits ≡ encode_lower (b ∷ [])
    → encode_lower (b ∷ []) ≡ get_or digits 0 0 ∷ get_or digits 1 0 ∷ []
unfolding encode_with
encode_lower-byte b digits e = rw e refl

-- the two digits of a byte, one after the other
pub two_digits : (b : ℕ) (old one two : List ℕ) (high low : ℕ) → high ≡ b / 16 → low ≡ b % 16
    → one ≡ old ++ slice_index lower_digits high ∷ [] → two ≡ one ++ slice_index lower_digits low ∷ []
    → two ≡ old ++ encode_lower (b ∷ [])
unfolding encode_with
two_digits b old one two high low high_is low_is one_is two_is =
    rw (two_is, one_is, high_is, low_is)
    (append_assoc old (slice_index lower_digits (b / 16) ∷ []) (slice_index lower_digits (b % 16) ∷ []))

-- the digits of one more byte
pub byte_more : (old out bs : List ℕ) (b : ℕ) → out ≡ old ++ encode_lower bs
    → out ++ encode_lower (b ∷ []) ≡ old ++ encode_lower (bs ++ b ∷ [])
byte_more old out bs b h =
    ap (λ x. x ++ encode_lower (b ∷ [])) h
    ∙ append_assoc old (encode_lower bs) (encode_lower (b ∷ []))
    ∙ ap (λ x. old ++ x) (sym (encode_with-append lower_digits bs (b ∷ [])))

-- a piece more is written
pub hex_more : (out piece after rest whole : List ℕ) → piece ++ after ≡ rest → out ++ encode_lower rest ≡ whole
    → (out ++ encode_lower piece) ++ encode_lower after ≡ whole
hex_more out piece after rest whole parts h =
    append_assoc out (encode_lower piece) (encode_lower after)
    ∙ ap (λ x. out ++ x) (sym (encode_with-append lower_digits piece after)) ∙ ap (λ x. out ++ encode_lower x) parts
    ∙ h

-- all is written
pub hex_end : (out rest whole : List ℕ) → eqb (length rest) 0 ≡ true → out ++ encode_lower rest ≡ whole → out ≡ whole
unfolding encode_with
hex_end out [] whole none h = sym (append-nil out) ∙ h
hex_end out (x ∷ rest) whole none h = absurd (omega (arith, eqb-true (length (x ∷ rest)) 0 none))
