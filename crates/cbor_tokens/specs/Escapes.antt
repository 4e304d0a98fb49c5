-- Texts with escapes. `escaped_text` is a text as JSON and EDN write it between quotes: the quote, the backslash and
-- hidden characters are escaped. `shown_text` is lines of text: only hidden characters other than line feeds are
-- escaped. `is_hidden` says which characters are hidden.
use Rattle.std.specs.Prelude.{ℕ, ◌/◌, ◌%◌, ◌==◌, ◌&&◌, ◌||◌, nat_le, Bool, List, [], ◌∷◌, ◌++◌, if◌then◌else◌, codes}
use Rattle.std.specs.Prelude.{flat_map, encode_utf8, not}
use Rattle.std.specs.Str.{chars}
use Rattle.hex.specs.Hex.{encode_lower}

-- a control character, one that ends a line or turns the direction of a text, or the byte order mark
abbrev pub is_hidden : ℕ → Bool
is_hidden c =
    nat_le c 31 || (nat_le 127 c && nat_le c 159) || (c == 0x061c) || (c == 0x200e) || (c == 0x200f)
    || (nat_le 0x2028 c && nat_le c 0x202e) || (nat_le 0x2066 c && nat_le c 0x2069) || (c == 0xfeff)

-- `\u` and four hex digits
abbrev pub unit_escape : ℕ → List ℕ
unit_escape c = codes "\\u" ++ encode_lower (c / 256 ∷ c % 256 ∷ [])

-- a character: `"` and `\` after a backslash, a hidden one by its letter or as `\u` and four hex digits, any other as
-- it is, in UTF-8
abbrev pub escaped_char : ℕ → List ℕ
escaped_char c =
    if c == 34 then codes "\\\""
    else if c == 92 then codes "\\\\"
    else if c == 10 then codes "\\n"
    else if c == 13 then codes "\\r"
    else if c == 9 then codes "\\t"
    else if c == 8 then codes "\\b"
    else if c == 12 then codes "\\f"
    else if is_hidden c then unit_escape c
    else encode_utf8 c

-- a text, given as its bytes, with each of its characters escaped
abbrev pub escaped_text : List ℕ → List ℕ
escaped_text text = flat_map escaped_char (chars text)

-- a character of lines: a hidden one, but for a line feed, as `\u{hhhh}`, any other as it is, in UTF-8
abbrev pub shown_char : ℕ → List ℕ
shown_char c =
    if (c == 10) || not (is_hidden c) then encode_utf8 c
    else codes "\\u{" ++ encode_lower (c / 256 ∷ c % 256 ∷ []) ++ codes "}"

-- lines, given as their bytes, with each of their characters shown so
abbrev pub shown_text : List ℕ → List ℕ
shown_text text = flat_map shown_char (chars text)

-- a character that is escaped begins with such a byte
abbrev pub begins_escape : ℕ → Bool
begins_escape b = nat_le b 31 || (b == 34) || (b == 92) || (b == 127) || (b == 0xc2) || (b == 0xd8) || (b == 0xe2)
    || (b == 0xef)
