-- Heads: the first byte of an item and the number that goes with it (RFC 7049 section 2).
use Rattle.std.specs.Prelude.{◌≡◌, ℕ, ◌+◌, ◌*◌, ◌^◌, ◌<◌, List, [], ◌∷◌, ◌++◌, nat_lt, if◌then◌else◌}
use Rattle.std.specs.Int.{w8, w16, w32, w64, to_be_bytes}
use Rattle.cbor_grammar.specs.declared.width.IntegerWidth.{IntegerWidth}
use Rattle.cbor_grammar.specs.declared.width.IntegerWidth.TheVariants.{Unknown, Zero, Eight, Sixteen, ThirtyTwo}
use Rattle.cbor_grammar.specs.declared.width.IntegerWidth.TheVariants.{SixtyFour}

-- the number can be written in this width; an unstated width is the shortest that fits
abbrev pub FitsWidth : IntegerWidth → ℕ → Type 0
FitsWidth Unknown n = n < 2 ^ 64
FitsWidth Zero n = n < 24
FitsWidth Eight n = n < 2 ^ 8
FitsWidth Sixteen n = n < 2 ^ 16
FitsWidth ThirtyTwo n = n < 2 ^ 32
FitsWidth SixtyFour n = n < 2 ^ 64

-- the width is stated, and the number can be written in it
abbrev pub FitsStated : IntegerWidth → ℕ → Type 0
FitsStated Unknown n = ⊥
FitsStated w n = FitsWidth w n

-- the first width that the number fits
abbrev pub shortest : ℕ → IntegerWidth
shortest n =
    if nat_lt n 24 then Zero
    else if nat_lt n (2 ^ 8) then Eight
    else if nat_lt n (2 ^ 16) then Sixteen
    else if nat_lt n (2 ^ 32) then ThirtyTwo
    else SixtyFour

-- the width that a number is written in
abbrev pub stated : IntegerWidth → ℕ → IntegerWidth
stated Unknown n = shortest n
stated w n = w

-- Three bits of major type, then five of info: the number itself up to 23, or 24 to 27 and the number
-- in the next 1, 2, 4 or 8 bytes, big endian. An unstated width has no head of its own.
abbrev pub head : ℕ → ℕ → IntegerWidth → List ℕ
head major n Unknown = []
head major n Zero = (32 * major + n) ∷ []
head major n Eight = (32 * major + 24) ∷ to_be_bytes w8 n
head major n Sixteen = (32 * major + 25) ∷ to_be_bytes w16 n
head major n ThirtyTwo = (32 * major + 26) ∷ to_be_bytes w32 n
head major n SixtyFour = (32 * major + 27) ∷ to_be_bytes w64 n

-- The first byte of an indefinite string, array or map: info 31. The break that ends it is info 31 of
-- major type 7 (RFC 7049 section 2.2).
abbrev pub opening : ℕ → ℕ
opening major = 32 * major + 31

abbrev pub break_byte : ℕ
break_byte = 0xff

-- the bytes are that head, and then such a rest
abbrev pub HeadThen : ℕ → ℕ → IntegerWidth → List ℕ → (List ℕ → Type 0) → Type 0
HeadThen major n w b Rest = FitsStated w n × (rest : List ℕ) × (b ≡ head major n w ++ rest) × Rest rest
