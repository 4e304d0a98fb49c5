-- Functions that read tokens as the code does: each returns what it reads from a text, and the rest. They connect the
-- code with the sets of texts in `Token`. Calls that read at the front cite these functions, and calls that take a
-- place cite `Token`.
use Rattle.std.specs.Prelude.{ℕ, ◌+◌, ◌*◌, Bool, true, false, not, ◌==◌, ◌&&◌, if◌then◌else◌, nat_lt, nat_le, List, []}
use Rattle.std.specs.Prelude.{◌∷◌, ◌++◌, length, drop, Option, Some, None}
use Rattle.std.specs.Char.{digit_value}
use Rattle.cbor_tokens.specs.Token.{is_whitespace, is_digit, is_special, prefix, radix}
use Rattle.cbor_tokens.specs.Token.{Base}
use Rattle.cbor_tokens.specs.Token.{decimal_base, hexadecimal_base, octal_base, binary_base}

-- What is left after the longest blank. In a comment, `opened` is the text from its first `/` on, which is
-- what is left where no `/` closes it.
abbrev pub after_blank_in : Bool → Option (List ℕ) → List ℕ → List ℕ
after_blank_in comments None [] = []
after_blank_in comments (Some opened) [] = opened
after_blank_in comments None (byte ∷ rest) =
    if is_whitespace byte then after_blank_in comments None rest
    else if comments && (byte == 47) then after_blank_in comments (Some (byte ∷ rest)) rest
    else byte ∷ rest
after_blank_in comments (Some opened) (byte ∷ rest) =
    if byte == 47 then after_blank_in comments None rest else after_blank_in comments (Some opened) rest

abbrev pub after_blank : Bool → List ℕ → List ℕ
after_blank comments text = after_blank_in comments None text

abbrev pub starts_with_digit : ℕ → List ℕ → Bool
starts_with_digit base [] = false
starts_with_digit base (byte ∷ rest) = nat_lt (digit_value byte) base

-- the base of a number: that of its prefix if a digit of that base follows, else decimal
abbrev pub base_of : List ℕ → Base
base_of [] = decimal_base
base_of (first ∷ []) = decimal_base
base_of (first ∷ letter ∷ rest) =
    if not (first == 48) then decimal_base
    else if (letter == 120) && starts_with_digit 16 rest then hexadecimal_base
    else if (letter == 111) && starts_with_digit 8 rest then octal_base
    else if (letter == 98) && starts_with_digit 2 rest then binary_base
    else decimal_base

-- the value of all digits that follow those of a value, and the rest
abbrev pub digit_run : ℕ → ℕ → List ℕ → ℕ × List ℕ
digit_run base value [] = (value, [])
digit_run base value (byte ∷ rest) =
    if nat_lt (digit_value byte) base then digit_run base (value * base + digit_value byte) rest
    else (value, byte ∷ rest)

-- the same as far as the value is at most 3
abbrev pub small_run : ℕ → List ℕ → ℕ × List ℕ
small_run value [] = (value, [])
small_run value (byte ∷ rest) =
    if nat_le (value * 10 + digit_value byte) 3 then small_run (value * 10 + digit_value byte) rest
    else (value, byte ∷ rest)

abbrev pub indicator_of : List ℕ → Option (ℕ × List ℕ)
indicator_of [] = None
indicator_of (byte ∷ rest) = if (byte == 95) && starts_with_digit 4 rest then Some (small_run 0 rest) else None

-- a value, with the indicator that follows it if there is one, and the rest
abbrev pub with_indicator : ℕ → List ℕ → Option (ℕ × List ℕ) → ℕ × Option ℕ × List ℕ
with_indicator value rest None = (value, None, rest)
with_indicator value rest (Some indicator) = (value, Some indicator.0, indicator.1)

abbrev pub after_run : ℕ × List ℕ → ℕ × Option ℕ × List ℕ
after_run run = with_indicator run.0 run.1 (indicator_of run.1)

-- the number in this base whose digits begin the text
abbrev pub number_in : Base → List ℕ → Option (ℕ × Option ℕ × List ℕ)
number_in base digits = if starts_with_digit (radix base) digits then Some (after_run (digit_run (radix base) 0 digits))
    else None

-- the number that begins the text
abbrev pub number_of : List ℕ → Option (ℕ × Option ℕ × List ℕ)
number_of text = number_in (base_of text) (drop (length (prefix (base_of text))) text)

-- content and the rest, with more content in front
abbrev pub with_front : List ℕ → Option (List ℕ × List ℕ) → Option (List ℕ × List ℕ)
with_front front None = None
with_front front (Some read) = Some (front ++ read.0, read.1)

-- the content up to the quote, and what follows it; in an escape, the byte after the `\` comes first
abbrev pub unquoted : ℕ → Bool → List ℕ → Option (List ℕ × List ℕ)
unquoted quote escape [] = None
unquoted quote true (byte ∷ rest) = if is_special quote byte then with_front (byte ∷ []) (unquoted quote false rest)
    else None
unquoted quote false (byte ∷ rest) =
    if byte == quote then Some ([], rest)
    else if byte == 92 then unquoted quote true rest
    else with_front (byte ∷ []) (unquoted quote false rest)

-- the digits up to the quote, and what follows it; in a comment, its end comes first
abbrev pub digits_in : Bool → Bool → List ℕ → Option (List ℕ × List ℕ)
digits_in comments inside [] = None
digits_in comments true (byte ∷ rest) = digits_in comments (not (byte == 47)) rest
digits_in comments false (byte ∷ rest) =
    if byte == 39 then Some ([], rest)
    else if is_digit comments byte then with_front (byte ∷ []) (digits_in comments false rest)
    else digits_in comments (comments && (byte == 47)) rest

-- nothing where there are no digits
abbrev pub some_digits : Option (List ℕ × List ℕ) → Option (List ℕ × List ℕ)
some_digits None = None
some_digits (Some read) = if nat_lt 0 (length read.0) then Some read else None

-- the digits of content that is empty or has at least one
abbrev pub digits_of : Bool → List ℕ → Option (List ℕ × List ℕ)
digits_of comments [] = None
digits_of comments (byte ∷ rest) = if byte == 39 then Some ([], rest)
    else some_digits (digits_in comments false (byte ∷ rest))
