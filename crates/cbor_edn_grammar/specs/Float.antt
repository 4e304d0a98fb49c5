-- Floats in EDN: which words are floats, and their bits.
use Rattle.std.specs.Prelude.{ℕ, List, [], length, take, drop, position, codes, Option, Some, None, Bool, true, false}
use Rattle.std.specs.Prelude.{◌==◌, ◌&&◌, ◌||◌, if◌then◌else◌, nat_lt, bytes_eq, to_bits, unwrap_or, is_some}
use Rattle.std.specs.Option.{option_or}
use Rattle.std.specs.Float.{float_is_finite, round_to_format}
use Rattle.std.specs.Float.Ieee.{Float, nan, inf, binary32, binary64}
use Rattle.std.specs.Float.Numeral.{has_digits}
use Rattle.std.specs.Int.{w16, w32, w64, from_be_bytes}
use Rattle.cbor_grammar.specs.declared.width.FloatWidth.{FloatWidth}
use Rattle.cbor_grammar.specs.declared.width.FloatWidth.TheVariants.{Unknown, Sixteen, ThirtyTwo, SixtyFour}
use Rattle.cbor_grammar.specs.Item.{Atom, float}
use Rattle.cbor_floats.specs.declared.float.EncodedFloat.{EncodedFloat}
use Rattle.cbor_floats.specs.declared.float.EncodedFloat.TheVariants.{Half, Single, Double}
use Rattle.cbor_floats.specs.Decimal.{unsigned, parts_of, decimal_number}
use Rattle.cbor_floats.specs.Nearest.{nearest_half}
use Rattle.cbor_floats.specs.Value.{half_value, bits_of}
use Rattle.cbor_edn_grammar.specs.Reading.{◌>>=◌}
use Rattle.cbor_edn_grammar.specs.HexFloat.{Dyadic, rounded, hex_number, is_hex}

-- ---- the number of a text

-- Perhaps a sign, digits with at most one point among them, at its ends too, and perhaps an exponent. It has a digit,
-- and a point or an exponent: else it is an integer.
abbrev pub is_decimal : List ℕ → Bool
is_decimal text =
    ((parts_of text).len == length (unsigned text)) && has_digits (parts_of text)
    && ((parts_of text).point || nat_lt 0 (length (parts_of text).exponent))

abbrev pub finite : Float → Option Float
finite x = if float_is_finite x then Some x else None

-- what the three words for NaN and the infinities stand for
abbrev pub number_of_word : List ℕ → Option Float
number_of_word text =
    if bytes_eq text (codes "NaN") then Some nan
    else if bytes_eq text (codes "Infinity") then Some (inf false)
    else if bytes_eq text (codes "-Infinity") then Some (inf true)
    else None

-- the double nearest to what a decimal text writes, or what one of the three words stands for
unfoldable pub number_of : List ℕ → Option Float
number_of text = if is_decimal text then finite (decimal_number binary64 text) else number_of_word text

-- ---- the bits of a number

-- one number with one sign, or both NaN
abbrev pub is_same : Float → Float → Bool
is_same x y = to_bits binary64 x == to_bits binary64 y

-- the half that is this number
unfoldable pub half_of : Float → Option EncodedFloat
half_of x = if is_same (half_value (nearest_half x)) x then Some (Half (nearest_half x)) else None

-- the single that is this number
unfoldable pub single_of : Float → Option EncodedFloat
single_of x = if is_same (round_to_format binary32 x) x then Some (Single (to_bits binary32 x)) else None

abbrev pub double_of : Float → EncodedFloat
double_of x = Double (to_bits binary64 x)

-- the number in the shortest width that represents it
unfoldable pub shortest_of : Float → EncodedFloat
shortest_of x = unwrap_or (option_or (half_of x) (single_of x)) (double_of x)

-- The single that is nearest to what a text writes. If its nearest double x is a single, then that one is.
unfoldable pub nearest_single : List ℕ → Float → Option EncodedFloat
nearest_single text x =
    option_or (single_of x) (finite (decimal_number binary32 text) >>= λ y. Some (Single (to_bits binary32 y)))

-- the float that a text is in 32 bits
abbrev pub single_in : List ℕ → Option EncodedFloat
single_in text = number_of text >>= nearest_single text

-- the number x of a text in a width: in 16 bits only a half that is it, and without a stated width the shortest
abbrev pub in_width : FloatWidth → List ℕ → Float → Option EncodedFloat
in_width Unknown text x = Some (shortest_of x)
in_width Sixteen text x = half_of x
in_width ThirtyTwo text x = nearest_single text x
in_width SixtyFour text x = Some (double_of x)

abbrev pub float_width : EncodedFloat → FloatWidth
float_width (Half bits) = Sixteen
float_width (Single bits) = ThirtyTwo
float_width (Double bits) = SixtyFour

abbrev pub float_atom : EncodedFloat → Atom
float_atom f = float (bits_of f) (float_width f)

-- the float that a text is in this width
unfoldable pub float_in : FloatWidth → List ℕ → Option Atom
float_in width text = number_of text >>= λ x. in_width width text x >>= λ f. Some (float_atom f)

-- ---- words

-- The width that stands after a number. Other tools write `f` and `f16` for `_2` and `_1`.
abbrev pub width_after : List ℕ → Option FloatWidth
width_after suffix =
    if bytes_eq suffix [] then Some Unknown
    else if bytes_eq suffix (codes "_1") || bytes_eq suffix (codes "f16") then Some Sixteen
    else if bytes_eq suffix (codes "_2") || bytes_eq suffix (codes "f") then Some ThirtyTwo
    else if bytes_eq suffix (codes "_3") then Some SixtyFour
    else None

-- the word that RFC 8949 has for NaN or an infinity, also by the names that other tools write
abbrev pub special : List ℕ → Option (List ℕ)
special word =
    if bytes_eq word (codes "NaN") || bytes_eq word (codes "nan") then Some (codes "NaN")
    else if bytes_eq word (codes "Infinity") || bytes_eq word (codes "inf") then Some (codes "Infinity")
    else if bytes_eq word (codes "-Infinity") || bytes_eq word (codes "-inf") then Some (codes "-Infinity")
    else None

abbrev pub cut_at : List ℕ → Option ℕ → List ℕ × List ℕ
cut_at word None = (word, [])
cut_at word (Some n) = (take n word, drop n word)

-- a word up to its `_`, and the width from there on
abbrev pub name_and_width : List ℕ → List ℕ × List ℕ
name_and_width word = cut_at word (position (λ b. b == 95) word)

-- a word up to its `_` or `f`, and the width from there on
abbrev pub digits_and_width : List ℕ → List ℕ × List ℕ
digits_and_width word = cut_at word (position (λ b. (b == 95) || (b == 102)) word)

abbrev pub is_special : List ℕ → Bool
is_special word = is_some (special (name_and_width word).0)

-- NaN or an infinity, with its width
abbrev pub special_word : List ℕ → Option Atom
special_word word = special (name_and_width word).0 >>= λ text. width_after (name_and_width word).1
    >>= λ width. float_in width text

-- a decimal number, with its width
abbrev pub decimal_word : List ℕ → Option Atom
decimal_word word = width_after (digits_and_width word).1 >>= λ width. float_in width (digits_and_width word).0

-- The number that a text in base 16 writes, in a width: in 32 bits the single that is nearest to it, and in the others
-- by the double that is.
abbrev pub hex_in_width : FloatWidth → Dyadic → Option EncodedFloat
hex_in_width Unknown number = finite (rounded binary64 number) >>= λ x. Some (shortest_of x)
hex_in_width Sixteen number = finite (rounded binary64 number) >>= half_of
hex_in_width ThirtyTwo number = finite (rounded binary32 number) >>= λ x. Some (Single (to_bits binary32 x))
hex_in_width SixtyFour number = finite (rounded binary64 number) >>= λ x. Some (double_of x)

-- the float that a text in base 16 is in this width
unfoldable pub hex_in : FloatWidth → List ℕ → Option Atom
hex_in width text = hex_number text >>= hex_in_width width >>= λ f. Some (float_atom f)

abbrev pub is_hex_word : List ℕ → Bool
is_hex_word word = is_hex (name_and_width word).0

-- a number in base 16 with an exponent, and with its width
abbrev pub hex_word : List ℕ → Option Atom
hex_word word = width_after (name_and_width word).1 >>= λ width. hex_in width (name_and_width word).0

-- A number is a float by its form: one of the words, or a point or an exponent in it.
abbrev pub is_float : List ℕ → Bool
is_float word = is_special word || is_decimal (digits_and_width word).0 || is_hex_word word

-- the float that a word of a number is: none is both in base 10 and in base 16
abbrev pub float_word : List ℕ → Option Atom
float_word word = if is_special word then special_word word else option_or (decimal_word word) (hex_word word)

-- ---- bits

-- the float of these bits: two, four or eight bytes
abbrev pub float_of_bytes : List ℕ → Option Atom
float_of_bytes bytes =
    if length bytes == 2 then Some (float (from_be_bytes w16 bytes) Sixteen)
    else if length bytes == 4 then Some (float (from_be_bytes w32 bytes) ThirtyTwo)
    else if length bytes == 8 then Some (float (from_be_bytes w64 bytes) SixtyFour)
    else None
