-- For `numbers.rt`: which number may be written for a float (`IsNumber`), and the bytes that are written for it
-- (`number_bytes`) and for a tag and its item (`tagged_bytes`).
use Rattle.std.specs.Prelude.{◌≡◌, ℕ, ◌<◌, ◌^◌, ◌++◌, ◌==◌, nat_lt, if◌then◌else◌, List, length, Option}
use Rattle.std.specs.Prelude.{Some, None, Ok}
use Rattle.cbor_grammar.specs.declared.width.IntegerWidth.{IntegerWidth}
use Rattle.cbor_grammar.specs.declared.width.IntegerWidth.TheVariants as width
use Rattle.cbor_grammar.specs.declared.argument.Argument.TheVariants.{Number}
use Rattle.cbor_grammar.specs.declared.head.ItemHead.{ItemHead}
use Rattle.cbor_grammar.specs.declared.head.ItemHead.TheVariants as item_head
use Rattle.cbor_grammar.specs.declared.strings.StringKind.TheVariants.{Bytes}
use Rattle.cbor_grammar.specs.Head.{shortest}
use Rattle.cbor_grammar.specs.Item.{Atom, integer, negative, float}
use Rattle.cbor_grammar.specs.Reading.{Read, read_head}
use Rattle.cbor_grammar.specs.Written.{encoded_head, encoded_float}
use Rattle.cbor_floats.specs.Preferred.{FitsWidth}
use Rattle.cbor_floats.specs.Value.{bits_of}
use Rattle.cbor_floats.specs.declared.float.EncodedFloat.{EncodedFloat}
use Rattle.cbor_rules.specs.declared.rules.Rules.{Rules}
use Rattle.cbor_rules.specs.Same.{said}
use Rattle.cbor_reencode.specs.declared.numbers.Reduced.{Reduced}
use Rattle.cbor_reencode.specs.declared.numbers.Reduced.TheVariants as code
use Rattle.cbor_reencode.specs.Reduction.{reduced_atom, big_endian, without_zeros, is_big}
use Rattle.cbor_reencode.specs.mirror.Chosen.{chosen_width, float_width_of}

-- ---- floats

abbrev pub float_atom : EncodedFloat → Atom
float_atom f = float (bits_of f) (float_width_of f)

-- without its width, if it is an integer
abbrev pub plain : Reduced → Atom
plain (code.Unsigned n) = integer n width.Unknown
plain (code.Negative n) = negative n width.Unknown
plain (code.Float f) = float_atom f

-- as it is written
abbrev pub atom_of : Reduced → Atom
atom_of (code.Unsigned n) = integer n (shortest n)
atom_of (code.Negative n) = negative n (shortest n)
atom_of (code.Float f) = float_atom f

abbrev pub FitsNumber : Reduced → Type 0
FitsNumber (code.Unsigned n) = n < 2 ^ 64
FitsNumber (code.Negative n) = n < 2 ^ 64
FitsNumber (code.Float f) = FitsWidth f

abbrev pub number_bytes : Reduced → List ℕ
number_bytes (code.Unsigned n) = encoded_head 0 n (shortest n)
number_bytes (code.Negative n) = encoded_head 1 n (shortest n)
number_bytes (code.Float f) = encoded_float (bits_of f) (float_width_of f)

-- what is written for a float
pub record IsNumber (rules : Rules) (f : EncodedFloat) (n : Reduced) : Type 0 where
  pub fits : FitsNumber n
  pub same : said rules.shortest_floats (reduced_atom rules (float_atom f))
      ≡ said rules.shortest_floats (reduced_atom rules (atom_of n))

-- ---- big numbers

-- the bytes after the head of a byte string of definite length
abbrev pub content_read : Read ItemHead → Option (List ℕ)
content_read (Ok (item_head.String Bytes (Number n w), rest)) = Some rest
content_read read = None

-- the content of a big number of this tag; its item is these bytes
abbrev pub big_content : Rules → ℕ → List ℕ → Option (List ℕ)
big_content rules tag y = if is_big rules tag then content_read (read_head y) else None

-- a byte string
abbrev pub string_bytes : List ℕ → List ℕ
string_bytes content = encoded_head 2 (length content) (shortest (length content)) ++ content

-- a big number of this tag and content, or the integer that it is
abbrev pub big_bytes : Rules → ℕ → IntegerWidth → List ℕ → List ℕ
big_bytes rules tag w content =
    if nat_lt (big_endian 0 content) (2 ^ 64)
    then encoded_head (if tag == 3 then 1 else 0) (big_endian 0 content) (shortest (big_endian 0 content))
    else encoded_head 6 tag (chosen_width rules tag w) ++ string_bytes (without_zeros content)

abbrev pub tag_bytes : Rules → ℕ → IntegerWidth → List ℕ → Option (List ℕ) → List ℕ
tag_bytes rules tag w y None = encoded_head 6 tag (chosen_width rules tag w) ++ y
tag_bytes rules tag w y (Some content) = big_bytes rules tag w content

-- a tag before an item of these bytes
abbrev pub tagged_bytes : Rules → ℕ → IntegerWidth → List ℕ → List ℕ
tagged_bytes rules tag w y = tag_bytes rules tag w y (big_content rules tag y)
