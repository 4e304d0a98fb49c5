-- Words in EDN: the longest run of letters, digits, `_` and `.`. A number may also have signs.
use Rattle.std.specs.Prelude.{ℕ, suc, List, [], ◌∷◌, Option, Some, None, Bool, false}
use Rattle.std.specs.Prelude.{◌==◌, ◌&&◌, ◌||◌, if◌then◌else◌, nat_le, take, drop}
use Rattle.cbor_grammar.specs.declared.width.IntegerWidth.{IntegerWidth}
use Rattle.cbor_grammar.specs.declared.width.IntegerWidth.TheVariants.{Zero, Eight, Sixteen, ThirtyTwo, SixtyFour}

abbrev pub is_digit : ℕ → Bool
is_digit b = nat_le 48 b && nat_le b 57

abbrev pub is_letter : ℕ → Bool
is_letter b = (nat_le 65 b && nat_le b 90) || (nat_le 97 b && nat_le b 122)

abbrev pub is_word_byte : ℕ → Bool
is_word_byte b = is_letter b || is_digit b || (b == 95) || (b == 46)

-- `+` or `-`
abbrev pub is_sign : ℕ → Bool
is_sign b = (b == 43) || (b == 45)

-- `e`, `E`, `p` or `P`
abbrev pub is_exponent : ℕ → Bool
is_exponent b = (b == 101) || (b == 69) || (b == 112) || (b == 80)

-- a number begins with a digit, a sign or a point
abbrev pub begins_number : List ℕ → Bool
begins_number [] = false
begins_number (b ∷ text) = is_digit b || is_sign b || (b == 46)

-- how long a word is from here on, where `signed` says whether a sign may be here; in a number one may
-- follow an exponent's letter
abbrev pub run_len : Bool → Bool → List ℕ → ℕ
run_len number signed [] = 0
run_len number signed (b ∷ text) =
    if is_word_byte b || (signed && is_sign b) then suc (run_len number (number && is_exponent b) text) else 0

-- how long the word at the front is
unfoldable pub word_len : List ℕ → ℕ
word_len text = run_len (begins_number text) (begins_number text) text

abbrev pub word_of : List ℕ → List ℕ
word_of text = take (word_len text) text

abbrev pub after_word : List ℕ → List ℕ
after_word text = drop (word_len text) text

-- the width that the byte after a `_` states
abbrev pub width_by : ℕ → Option IntegerWidth
width_by b =
    if b == 105 then Some Zero
    else if b == 48 then Some Eight
    else if b == 49 then Some Sixteen
    else if b == 50 then Some ThirtyTwo
    else if b == 51 then Some SixtyFour
    else None

-- the width that `_i`, `_0`, `_1`, `_2` or `_3` states
abbrev pub width_of : List ℕ → Option IntegerWidth
width_of (a ∷ b ∷ []) = if a == 95 then width_by b else None
width_of word = None
