-- The tokens of diagnostic notation: which texts they are, and what they mean. A text is the list of its bytes in
-- UTF-8.
use Rattle.std.specs.Prelude.{◌≡◌, ◌≢◌, ◌⊎◌, ℕ, ◌+◌, ◌<◌, ◌≤◌, ◌^◌, min, Bool, not, ◌==◌, ◌&&◌, ◌||◌, if◌then◌else◌}
use Rattle.std.specs.Prelude.{IsTrue, List, [], ◌∷◌, ◌++◌, length, flat_map, codes, Option, Some, None}
use Rattle.std.specs.List.{AllByRecursion}
use Rattle.std.specs.Str.Parse.{IsNumeral, digits_value}
use Rattle.cbor_tokens.specs.Ascii.{space, tab, line_feed, carriage_return, slash, backslash, apostrophe}

-- The front of a text is such, and no longer front of the same text is.
pub record IsLongest (Is : List ℕ → Type 0) (front rest : List ℕ) : Type 0 where
  pub is : Is front
  pub no_longer : (other after : List ℕ) → front ++ rest ≡ other ++ after → Is other → length other ≤ length front

-- Blanks

-- a space, a tab, a line feed or a carriage return
abbrev pub is_whitespace : ℕ → Bool
is_whitespace byte = (byte == space) || (byte == tab) || (byte == line_feed) || (byte == carriage_return)

-- A blank: any run, also empty, of whitespace and, where comments are allowed, of comments. A comment is
-- `/`, any bytes but `/`, and `/`.
pub data Blank (comments : Bool) : List ℕ → Type 0 where
  nothing : Blank comments []
  whitespace : {byte : ℕ} {rest : List ℕ} → IsTrue (is_whitespace byte) → Blank comments rest
      → Blank comments (byte ∷ rest)
  comment : {text : List ℕ} (words rest : List ℕ) → IsTrue comments → AllByRecursion (λ byte. byte ≢ slash) words
      → Blank comments rest → text ≡ slash ∷ words ++ slash ∷ rest → Blank comments text

-- Numbers

-- the bases that a number may be written in
pub data Base : Type 0 where
  decimal_base : Base
  hexadecimal_base : Base
  octal_base : Base
  binary_base : Base

-- what comes before the digits of a base
abbrev pub prefix : Base → List ℕ
prefix decimal_base = []
prefix hexadecimal_base = codes "0x"
prefix octal_base = codes "0o"
prefix binary_base = codes "0b"

abbrev pub radix : Base → ℕ
radix decimal_base = 10
radix hexadecimal_base = 16
radix octal_base = 8
radix binary_base = 2

-- one digit or more of a base, letters of either case, and the number that they write
abbrev pub AreDigits : ℕ → List ℕ → ℕ → Type 0
AreDigits base text value = IsNumeral base text × (value ≡ digits_value base text)

-- what may follow the digits: nothing, or `_` and decimal digits whose value is the indicator, 0 to 3
abbrev pub Indicates : List ℕ → Option ℕ → Type 0
Indicates text None = text ≡ []
Indicates text (Some indicator) = (digits : List ℕ) × (text ≡ codes "_" ++ digits) × AreDigits 10 digits indicator
    × (indicator ≤ 3)

-- A number, its value and its indicator: the prefix of a base, digits of that base, and an indicator or
-- none. There may be leading zeros.
pub record IsNumber (text : List ℕ) (value : ℕ) (indicator : Option ℕ) : Type 0 where
  pub base : Base
  pub digits : List ℕ
  pub after : List ℕ
  pub text_is : text ≡ prefix base ++ (digits ++ after)
  pub digits_are : AreDigits (radix base) digits value
  pub after_is : Indicates after indicator

-- a number of some value, with an indicator or without
abbrev pub IsSomeNumber : List ℕ → Type 0
IsSomeNumber text = (value : ℕ) × (indicator : Option ℕ) × IsNumber text value indicator

-- a value, where all values past 2^64 are one
abbrev pub capped : ℕ → ℕ
capped value = min value (2 ^ 64 + 1)

-- Content of quotes

-- the quote or the backslash
abbrev pub is_special : ℕ → ℕ → Bool
is_special quote byte = (byte == quote) || (byte == backslash)

-- a byte of the content as it is written between such quotes: a special one after a backslash, any other as
-- it is
abbrev pub escaped_byte : ℕ → ℕ → List ℕ
escaped_byte quote byte = if is_special quote byte then backslash ∷ byte ∷ [] else byte ∷ []

-- content as it is written between such quotes
abbrev pub in_quotes : ℕ → List ℕ → List ℕ
in_quotes quote content = flat_map (escaped_byte quote) content

-- A byte that may be a digit: neither whitespace nor `'`, and where comments are allowed not `/`, which
-- always opens a comment there. What the digits of a notation are is not said here.
abbrev pub is_digit : Bool → ℕ → Bool
is_digit comments byte = not (is_whitespace byte || (byte == apostrophe) || (comments && (byte == slash)))

-- digits with a blank, which may be empty, before each of them and after the last
pub data Spaced (comments : Bool) : List ℕ → List ℕ → Type 0 where
  blank : {text : List ℕ} → Blank comments text → Spaced comments text []
  digit : {text digits : List ℕ} {byte : ℕ} (before rest : List ℕ) → Blank comments before
      → IsTrue (is_digit comments byte) → Spaced comments rest digits → text ≡ before ++ byte ∷ rest
      → Spaced comments text (byte ∷ digits)

-- the content of quotes that is empty, or digits with blanks before, between or after them, with at least
-- one digit
abbrev pub DigitsBetween : Bool → List ℕ → List ℕ → Type 0
DigitsBetween comments text digits = Spaced comments text digits × ((text ≡ []) ⊎ (0 < length digits))
