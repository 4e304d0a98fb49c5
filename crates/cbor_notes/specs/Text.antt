-- How comments show bytes, texts and numbers: bytes between quotes (`quoted_bytes`), texts with escapes
-- (`escaped_text`), bytes as hex digits (`spaced_hex`), and numbers in groups of three digits (`grouped`).
use Rattle.std.specs.Prelude.{◌≡◌, ◌<◌, ◌≤◌, ℕ, ◌%◌, ◌==◌, ◌&&◌, ◌||◌, nat_lt, nat_le, Bool, List, [], ◌∷◌, ◌++◌}
use Rattle.std.specs.Prelude.{length, take, drop, if◌then◌else◌, codes, decimal, false, flat_map, encode_utf8}
use Rattle.std.specs.List.{AllByRecursion, concat}
use Rattle.std.specs.Fmt.{digits}
use Rattle.std.specs.Str.{chars}
use Rattle.hex.specs.Hex.{encode_lower}
use Rattle.cbor_tokens.specs.Ascii.{tab, line_feed, carriage_return, space, quote, apostrophe, comma, backslash}

-- a tab, a carriage return or a line feed by its letter, `\t`, `\r` or `\n`, and any other
-- character as `otherwise` says
abbrev pub white_or : ℕ → List ℕ → List ℕ
white_or c otherwise =
    if c == tab then codes "\\t"
    else if c == carriage_return then codes "\\r"
    else if c == line_feed then codes "\\n"
    else otherwise

-- a byte: `'`, `"` and `\` after a backslash, the other characters of ASCII that print as they
-- are, and any other byte as `\x` and its two hex digits in lower case
abbrev pub escaped_byte : ℕ → List ℕ
escaped_byte b = white_or b
    (if (b == apostrophe) || (b == quote) || (b == backslash) then codes "\\" ++ b ∷ []
    else if nat_le space b && nat_le b 126 then b ∷ []
    else codes "\\x" ++ encode_lower (b ∷ []))

-- bytes between quotes, each of them escaped
abbrev pub quoted_bytes : List ℕ → List ℕ
quoted_bytes bytes = codes "\"" ++ flat_map escaped_byte bytes ++ codes "\""

-- the hex digits of bytes, with a blank after those of the first if others follow
abbrev pub spaced_hex : List ℕ → List ℕ
spaced_hex bytes =
    if nat_le (length bytes) 1 then encode_lower bytes
    else encode_lower (take 1 bytes) ++ codes " " ++ encode_lower (drop 1 bytes)

-- the control characters of Unicode (category Cc): U+0000 to U+001F and U+007F to U+009F
abbrev pub is_control : ℕ → Bool
is_control c = nat_le c 31 || (nat_le 127 c && nat_le c 159)

-- a character: `"` and `\` after a backslash, a control character as `\u{h}` with hex digits in
-- lower case and no leading zero, any other as it is, in UTF-8
abbrev pub escaped_char : ℕ → List ℕ
escaped_char c = white_or c
    (if (c == quote) || (c == backslash) then codes "\\" ++ c ∷ []
    else if is_control c then codes "\\u{" ++ digits 16 false c ++ codes "}"
    else encode_utf8 c)

-- a text, given as its bytes, with each of its characters escaped
abbrev pub escaped_text : List ℕ → List ℕ
escaped_text text = flat_map escaped_char (chars text)

-- a comma, where one or more whole groups of three digits follow
abbrev pub comma_before : List ℕ → List ℕ
comma_before digits = if nat_lt 0 (length digits) && (length digits % 3 == 0) then codes "," else []

-- digits in groups of three from the right, with commas between the groups
abbrev pub in_groups : List ℕ → List ℕ
in_groups [] = []
in_groups (digit ∷ rest) = digit ∷ comma_before rest ++ in_groups rest

-- the minus before a negative number
abbrev pub minus_if : Bool → List ℕ
minus_if negative = if negative then codes "-" else []

-- a number in decimal digits, grouped, after a minus if it is negative
abbrev pub grouped : ℕ → Bool → List ℕ
grouped number negative = minus_if negative ++ in_groups (decimal number)

-- digits with commas: a first group of one to three, and others of three, each after a comma
pub record IsGrouped (digits text : List ℕ) : Type 0 where
  pub first : List ℕ
  pub others : List (List ℕ)
  pub some : 0 < length first
  pub short : length first ≤ 3
  pub of_three : AllByRecursion (λ group. length group ≡ 3) others
  pub digits_are : digits ≡ first ++ concat others
  pub text_is : text ≡ first ++ flat_map (λ group. comma ∷ group) others

-- the text is a number in decimal digits, grouped so, after a minus if it is negative
abbrev pub IsGroupedNumber : ℕ → Bool → List ℕ → Type 0
IsGroupedNumber number negative text = (digits : List ℕ) × IsGrouped (decimal number) digits
    × (text ≡ minus_if negative ++ digits)
