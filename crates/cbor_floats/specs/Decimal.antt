-- Decimal texts of floats in diagnostic notation (RFC 8949 section 8, RFC 8610 appendix G), and the numbers that they
-- stand for.
use Rattle.std.specs.Prelude.{◌≡◌, ◌⊎◌, ℕ, ◌<◌, Bool, true, false, List, length, drop, codes, ◌==◌, slice_index, IsTrue}
use Rattle.std.specs.Prelude.{IsFalse}
use Rattle.std.specs.Float.{float_is_finite}
use Rattle.std.specs.Float.Ieee.{Float, Format, nan, inf, binary32, binary64}
use Rattle.std.specs.Float.Numeral.{Parts, minus, has_digits, nearest_float, scan_numeral}
use Rattle.std.specs.Float.Parse.{sign_len}
use Rattle.ryu.specs.Plain.{IsLaidOutNumber}
use Rattle.cbor_floats.specs.declared.decimal.NumberError.{NumberError}
use Rattle.cbor_floats.specs.declared.decimal.NumberError.TheVariants.{NoNumber, TooLarge, NoHalf}
use Rattle.cbor_floats.specs.Value.{IsEncodingOf, width_of}
use Rattle.cbor_floats.specs.declared.float.Width.{Width}
use Rattle.cbor_floats.specs.declared.float.Width.TheVariants.{Sixteen, ThirtyTwo}
use Rattle.cbor_floats.specs.declared.float.EncodedFloat.{EncodedFloat}
use Rattle.cbor_floats.specs.declared.float.EncodedFloat.TheVariants.{Half, Single}

-- the text without a sign at its front
abbrev pub unsigned : List ℕ → List ℕ
unsigned text = drop (sign_len text) text

abbrev pub is_negative : List ℕ → Bool
is_negative text = slice_index text 0 == minus

-- the digits before the point, those after it, and the exponent
abbrev pub parts_of : List ℕ → Parts
parts_of text = scan_numeral (unsigned text)

-- The text is perhaps a sign, digits with at most one point among them, at its ends too, and perhaps an exponent.
-- It has a digit, and a point or an exponent: else it is an integer.
pub record IsDecimal (text : List ℕ) : Type 0 where
  pub whole : (parts_of text).len ≡ length (unsigned text)
  pub digits : IsTrue (has_digits (parts_of text))
  pub marked : ((parts_of text).point ≡ true) ⊎ (0 < length (parts_of text).exponent)

-- the float of the format that is nearest to the number that a decimal text writes, an infinity where it is too large
abbrev pub decimal_number : Format → List ℕ → Float
decimal_number f text = nearest_float f (is_negative text) (parts_of text)

-- the three words for what is no finite number
abbrev pub IsWordOf : List ℕ → Float → Type 0
IsWordOf text x =
    ((text ≡ codes "NaN") × (x ≡ nan)) ⊎ (((text ≡ codes "Infinity") × (x ≡ inf false))
    ⊎ ((text ≡ codes "-Infinity") × (x ≡ inf true)))

-- the text, which has no indicator, writes a number that is nearest to this finite one
abbrev pub IsDecimalOf : List ℕ → Float → Type 0
IsDecimalOf text x = IsDecimal text × (decimal_number binary64 text ≡ x) × IsTrue (float_is_finite x)

-- the text, which has no indicator, is this number
abbrev pub IsNumber : List ℕ → Float → Type 0
IsNumber text x = IsWordOf text x ⊎ IsDecimalOf text x

-- the text writes the finite number by digits in this layout, with an exponent from 1e16 on and below 1e-5, or another
-- by its word
pub record IsTextOf (text : List ℕ) (x : Float) : Type 0 where
  pub number : IsNumber text x
  pub layout : IsTrue (float_is_finite x) → IsLaidOutNumber 16 4 text

-- no single is this number
abbrev pub IsNoSingle : Float → Type 0
IsNoSingle x = (bits : ℕ) → ¬ (IsEncodingOf (Single bits) x)

-- The text, before the indicator of this width, is the float: its number, if the width has it.
-- In 32 bits it is otherwise the nearest single, since shortest digits of singles are common, as in 0.1.
pub record IsReadAs (text : List ℕ) (width : Width) (float : EncodedFloat) : Type 0 where
  pub x : Float
  pub number : IsNumber text x
  pub width_is : width_of float ≡ width
  pub encodes : IsEncodingOf float x
      ⊎ ((width ≡ ThirtyTwo) × IsNoSingle x × IsTrue (float_is_finite (decimal_number binary32 text))
      × IsEncodingOf float (decimal_number binary32 text))

-- what an error says of a text that has no indicator
abbrev pub IsRefused : NumberError → List ℕ → Type 0
IsRefused NoNumber text = ¬ (IsDecimal text) × ((x : Float) → ¬ (IsWordOf text x))
IsRefused TooLarge text = IsDecimal text × IsFalse (float_is_finite (decimal_number binary64 text))
IsRefused NoHalf text = ⊥

-- what an error says of a text before the indicator of a width
abbrev pub IsRefusedIn : NumberError → List ℕ → Width → Type 0
IsRefusedIn NoNumber text width = IsRefused NoNumber text
IsRefusedIn TooLarge text width =
    IsRefused TooLarge text
    ⊎ ((width ≡ ThirtyTwo) × ((x : Float) × IsNumber text x × IsNoSingle x
    × IsFalse (float_is_finite (decimal_number binary32 text))))
IsRefusedIn NoHalf text width = (width ≡ Sixteen) × ((x : Float) × IsNumber text x
    × ((bits : ℕ) → ¬ (IsEncodingOf (Half bits) x)))
