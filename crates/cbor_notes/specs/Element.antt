-- The elements of typed arrays (RFC 8746, section 2): their sizes, and their texts in comments.
use Rattle.std.specs.Prelude.{ℕ, ◌+◌, ◌-◌, ◌*◌, ◌/◌, ◌%◌, ◌^◌, ◌==◌, nat_le, nat_lt, Bool, true, false, not, ◌&&◌}
use Rattle.std.specs.Prelude.{if◌then◌else◌, Option, Some, None, List, ◌++◌, length, reverse, codes}
use Rattle.std.specs.Int.Digits.{number_from_digits}
use Rattle.hex.specs.Hex.{encode_lower}
use Rattle.cbor_notes.specs.Text.{grouped}

-- what an element is: a number without a sign, one with a sign, or a float
pub data Kind : Type 0 where
  unsigned : Kind
  signed : Kind
  float : Kind

-- a tag of a typed array: 64 to 87, but for 76, which is reserved
abbrev pub is_typed_array : ℕ → Bool
is_typed_array tag = nat_le 64 tag && nat_le tag 87 && not (tag == 76)

-- The low five bits of such a tag are, from the highest on, f, s, e and two bits ll.
-- f is set for floats, and else s for numbers with a sign
abbrev pub kind : ℕ → Kind
kind tag =
    if tag / 16 % 2 == 1 then float else if tag / 8 % 2 == 1 then signed else unsigned

-- e is set where the lowest byte comes first; of 68, whose elements are single bytes, it says that they
-- are clamped, and their order is no question
abbrev pub is_little_endian : ℕ → Bool
is_little_endian tag = tag / 4 % 2 == 1

-- an element has 2 to the power of f + ll bytes
abbrev pub size : ℕ → ℕ
size tag = 2 ^ (tag / 16 % 2 + tag % 4)

-- the bytes of an element, which tags of no typed array don't have
abbrev pub element_size : ℕ → Option ℕ
element_size tag = if is_typed_array tag then Some (size tag) else None

-- a number of that many bytes in two's complement, grouped: from half of its range on it is negative
abbrev pub signed_text : ℕ → ℕ → List ℕ
signed_text bytes number =
    if nat_lt number (2 ^ (8 * bytes - 1)) then grouped number false
    else grouped (2 ^ (8 * bytes) - number) true

-- what an element is called
abbrev pub word : Kind → List ℕ
word unsigned = codes "unsigned"
word signed = codes "signed"
word float = codes "float"

-- an element, its highest byte first: a number, grouped, or the bits of a float in hex
abbrev pub value : Kind → List ℕ → List ℕ
value unsigned bytes = grouped (number_from_digits 256 bytes) false
value signed bytes = signed_text (length bytes) (number_from_digits 256 bytes)
value float bytes = encode_lower bytes

-- the same between brackets, after what it is called
abbrev pub value_text : Kind → List ℕ → List ℕ
value_text of_kind bytes = word of_kind ++ codes "(" ++ value of_kind bytes ++ codes ")"

-- the bytes of an element, the highest first
abbrev pub big_endian : ℕ → List ℕ → List ℕ
big_endian tag bytes = if is_little_endian tag then reverse bytes else bytes

-- the text of an element, if the bytes are one of that tag
unfoldable pub element_text : ℕ → List ℕ → Option (List ℕ)
element_text tag bytes =
    if is_typed_array tag && (length bytes == size tag)
    then Some (value_text (kind tag) (big_endian tag bytes)) else None
