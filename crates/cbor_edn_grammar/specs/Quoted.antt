-- The bytes of the content between quotes or apostrophes in EDN (`quoted`). The escapes are those of JSON, `\u{..}`
-- with hex digits, and `\'` between apostrophes.
use Rattle.std.specs.Prelude.{ℕ, ◌+◌, ◌-◌, ◌*◌, List, [], ◌∷◌, Option, Some, None, Bool, true, false}
use Rattle.std.specs.Prelude.{◌==◌, ◌&&◌, ◌||◌, if◌then◌else◌, nat_lt, nat_le, encode_utf8, codes}
use Rattle.std.specs.List.{position_or_len}
use Rattle.std.specs.Char.{digit_value}
use Rattle.cbor_tokens.specs.Token.{is_special}
use Rattle.cbor_edn_grammar.specs.Reading.{Read, ◌>>=◌, after_bytes, repeated}

abbrev pub is_hex : ℕ → Bool
is_hex b = nat_lt (digit_value b) 16

-- the number that two hex digits are
abbrev pub two_hex : List ℕ → Read ℕ
two_hex (a ∷ b ∷ text) = if is_hex a && is_hex b then Some (digit_value a * 16 + digit_value b, text) else None
two_hex text = None

-- the number that four of them are
abbrev pub four_hex : List ℕ → Read ℕ
four_hex text = two_hex text >>= λ high. two_hex high.1 >>= λ low. Some (high.0 * 256 + low.0, low.1)

-- the number of the hex digits up to a `}`, after those of a value; none is past 10ffff
abbrev pub braced_from : ℕ → List ℕ → Read ℕ
braced_from value [] = None
braced_from value (b ∷ text) =
    if b == 125 then Some (value, text)
    else if is_hex b && nat_lt (value * 16 + digit_value b) 0x110000 then braced_from (value * 16 + digit_value b) text
    else None

abbrev pub braced : List ℕ → Read ℕ
braced [] = None
braced (b ∷ text) = if b == 125 then None else braced_from 0 (b ∷ text)

-- a high surrogate, and a low surrogate
abbrev pub is_first_half : ℕ → Bool
is_first_half n = nat_le 0xd800 n && nat_lt n 0xdc00

abbrev pub is_second_half : ℕ → Bool
is_second_half n = nat_le 0xdc00 n && nat_lt n 0xe000

-- a character, which a surrogate is not
abbrev pub character : ℕ → List ℕ → Read ℕ
character n text = if is_first_half n || is_second_half n || nat_le 0x110000 n then None else Some (n, text)

-- the character of a surrogate pair
abbrev pub joined_halves : ℕ → ℕ → List ℕ → Read ℕ
joined_halves first second text = if is_second_half second
    then character (0x10000 + (first - 0xd800) * 0x400 + (second - 0xdc00)) text else None

abbrev pub second_half : ℕ → List ℕ → Read ℕ
second_half first text = after_bytes (codes "\\u") text >>= four_hex >>= λ n. joined_halves first n.0 n.1

-- the character that four hex digits write, or twice four if the first four are a high surrogate
abbrev pub from_units : List ℕ → Read ℕ
from_units text = four_hex text >>= λ n. if is_first_half n.0 then second_half n.0 n.1 else character n.0 n.1

-- the character of an escape after its `\u`: hex digits in braces, or four of them
abbrev pub unicode_escape : List ℕ → Read ℕ
unicode_escape [] = None
unicode_escape (b ∷ text) = if b == 123 then (braced text >>= λ n. character n.0 n.1) else from_units (b ∷ text)

-- the character that a letter after a `\` stands for
abbrev pub escaped : ℕ → ℕ → Option ℕ
escaped quote b =
    if (b == 34) || (b == 92) || (b == 47) then Some b
    else if (b == 39) && (quote == 39) then Some b
    else if b == 98 then Some 8
    else if b == 102 then Some 12
    else if b == 110 then Some 10
    else if b == 114 then Some 13
    else if b == 116 then Some 9
    else None

-- the character of an escape after its `\`
abbrev pub escape : ℕ → List ℕ → Read ℕ
escape quote [] = None
escape quote (b ∷ text) = if b == 117 then unicode_escape text else (escaped quote b >>= λ c. Some (c, text))

-- how many bytes come before the first quote or `\`
abbrev pub plain_len : ℕ → List ℕ → ℕ
plain_len quote text = position_or_len (is_special quote) text

-- one byte of content, an escape, or the closing quote
abbrev pub content_turn : ℕ → List ℕ → Option (List ℕ × Bool × List ℕ)
content_turn quote [] = None
content_turn quote (b ∷ text) =
    if b == quote then Some ([], false, text)
    else if b == 92 then (escape quote text >>= λ e. Some (encode_utf8 e.0, true, e.1))
    else Some (b ∷ [], true, text)

-- the content up to the closing quote
abbrev pub quoted : ℕ → List ℕ → Read (List ℕ)
quoted quote text = repeated (content_turn quote) text
