-- The text of a typed array's elements in a note (RFC 8746, section 2): the first eight, with `, ` between, and `..`
-- in place of further ones (`IsElementsNote`).
use Rattle.std.specs.Prelude.{◌≡◌, ℕ, zero, suc, ◌-◌, ◌*◌, ◌%◌, ◌^◌, ◌==◌, nat_le, nat_lt, Bool, true, false, not}
use Rattle.std.specs.Prelude.{◌&&◌, if◌then◌else◌, Option, Some, None, List, [], ◌∷◌, ◌++◌, length, take, drop}
use Rattle.std.specs.Prelude.{codes, decimal}
use Rattle.std.specs.Int.Digits.{number_from_digits}
use Rattle.cbor_floats.specs.declared.float.EncodedFloat.{EncodedFloat}
use Rattle.cbor_floats.specs.declared.float.EncodedFloat.TheVariants.{Half, Single, Double}
use Rattle.cbor_floats.specs.Decimal.{IsTextOf}
use Rattle.cbor_floats.specs.Value.{value_of}
use Rattle.cbor_notes.specs.Element.{Kind, unsigned, signed, float, is_typed_array, kind, size, big_endian}
use Rattle.cbor_inside.specs.Rule.{is_empty}

-- ---- one element

-- the elements of these tags are shown: they have at most 64 bits, and only floats have more
abbrev pub is_shown : ℕ → Bool
is_shown tag = is_typed_array tag && nat_le (size tag) 8

-- the bytes of an element, for tags whose elements are shown
abbrev pub shown_size : ℕ → Option ℕ
shown_size tag = if is_shown tag then Some (size tag) else None

-- the number that the bytes of an element write in the order of the tag
abbrev pub number_of : ℕ → List ℕ → ℕ
number_of tag bytes = number_from_digits 256 (big_endian tag bytes)

-- a number of that many bytes in two's complement: from half of its range on it is negative
abbrev pub signed_text : ℕ → ℕ → List ℕ
signed_text bytes number =
    if nat_lt number (2 ^ (8 * bytes - 1)) then decimal number else codes "-" ++ decimal (2 ^ (8 * bytes) - number)

-- the float of that many bytes with these bits
abbrev pub float_of : ℕ → ℕ → EncodedFloat
float_of bytes bits = if bytes == 2 then Half bits else if bytes == 4 then Single bits else Double bits

-- the text of an element of this kind and that many bytes, which write this number
abbrev pub IsTextOfKind : Kind → ℕ → ℕ → List ℕ → Type 0
IsTextOfKind unsigned bytes number text = text ≡ decimal number
IsTextOfKind signed bytes number text = text ≡ signed_text bytes number
IsTextOfKind float bytes number text = IsTextOf text (value_of (float_of bytes number))

-- the text of an element with these bytes
abbrev pub IsElementText : ℕ → List ℕ → List ℕ → Type 0
IsElementText tag bytes text = IsTextOfKind (kind tag) (size tag) (number_of tag bytes) text

-- ---- several elements

-- Bytes of further elements, and what is written of them: up to that many elements, each after a comma, and `..` in
-- place of the others.
unfoldable pub MoreElements : ℕ → ℕ → List ℕ → List ℕ → Type 0
MoreElements tag left [] text = text ≡ []
MoreElements tag zero (b ∷ bs) text = text ≡ codes ", .."
MoreElements tag (suc left) (b ∷ bs) text =
    (element more : List ℕ) × IsElementText tag (take (size tag) (b ∷ bs)) element
    × MoreElements tag left (drop (size tag) (b ∷ bs)) more × (text ≡ codes ", " ++ (element ++ more))

-- the bytes are one or more whole elements that are shown
abbrev pub has_elements : ℕ → List ℕ → Bool
has_elements tag bytes = is_shown tag && (not (is_empty bytes) && (length bytes % size tag == 0))

-- the text of the first eight elements, if these bytes are elements that are shown
abbrev pub IsElementsNote : ℕ → List ℕ → Option (List ℕ) → Type 0
IsElementsNote tag bytes None = has_elements tag bytes ≡ false
IsElementsNote tag bytes (Some text) =
    (has_elements tag bytes ≡ true) × (first more : List ℕ) × IsElementText tag (take (size tag) bytes) first
    × MoreElements tag 7 (drop (size tag) bytes) more × (text ≡ first ++ more)
