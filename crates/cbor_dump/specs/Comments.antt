-- The comments of a dump: what each line says about its bytes.
use Rattle.std.specs.Prelude.{ℕ, ◌+◌, ◌==◌, ◌||◌, ◌&&◌, nat_le, List, [], ◌++◌, drop, codes, decimal, true, false}
use Rattle.std.specs.Prelude.{Option, Some, None, if◌then◌else◌}
use Rattle.hex.specs.Hex.{encode_lower}
use Rattle.cbor_notes.specs.TagNames.{tag_name}
use Rattle.cbor_notes.specs.Text.{grouped, quoted_bytes, escaped_text}
use Rattle.cbor_grammar.specs.declared.encoding.Encoding.{Encoding}
use Rattle.cbor_grammar.specs.declared.encoding.Encoding.TheVariants.{Base16, Base64, Base64Url}
use Rattle.cbor_grammar.specs.NotationText.{quoted}

abbrev pub in_brackets : List ℕ → List ℕ → List ℕ
in_brackets name inner = name ++ codes "(" ++ inner ++ codes ")"

abbrev pub unsigned_comment : ℕ → List ℕ
unsigned_comment n = in_brackets (codes "unsigned") (grouped n false)

-- the integer is -1 less the number that is encoded
abbrev pub negative_comment : ℕ → List ℕ
negative_comment n = in_brackets (codes "negative") (grouped (n + 1) true)

-- a float by the digits of its bits, which follow the first byte of its encoding
abbrev pub float_comment : List ℕ → List ℕ
float_comment bytes = in_brackets (codes "float") (encode_lower (drop 1 bytes))

-- what RFC 7049 section 2.3 says of a simple value; it reserves 24 to 31, and 32 is shown as if it did
abbrev pub simple_kind : ℕ → List ℕ
simple_kind n =
    if n == 20 then codes "false, "
    else if n == 21 then codes "true, "
    else if n == 22 then codes "null, "
    else if n == 23 then codes "undefined, "
    else if nat_le 24 n && nat_le n 32 then codes "reserved, "
    else codes "unassigned, "

abbrev pub simple_comment : ℕ → List ℕ
simple_comment n = simple_kind n ++ in_brackets (codes "simple") (decimal n)

-- a string's length or a container's count, and `*` where it is indefinite
abbrev pub count_text : Option ℕ → List ℕ
count_text (Some n) = decimal n
count_text None = codes "*"

abbrev pub counted_comment : List ℕ → Option ℕ → List ℕ
counted_comment name count = in_brackets name (count_text count)

abbrev pub name_before : Option (List ℕ) → List ℕ
name_before (Some name) = name ++ codes ", "
name_before None = []

-- a tag by its name, if it has one, and its number
abbrev pub tag_comment : ℕ → List ℕ
tag_comment t = name_before (tag_name t) ++ in_brackets (codes "tag") (decimal t)

-- The tags below which byte strings are shown in an encoding, up to the next such tag: those of RFC 7049
-- section 2.4.4.2, and those of UUIDs and network addresses.
abbrev pub encoding_below : ℕ → Option Encoding → Option Encoding
encoding_below t outside =
    if t == 21 then Some Base64Url
    else if t == 22 then Some Base64
    else if (t == 23) || (t == 37) || (t == 52) || (t == 54) || (t == 260) then Some Base16
    else outside

-- a piece of a byte string, encoded as in notation; in base 64 the whole string is beside each piece
abbrev pub bytes_comment : Option Encoding → List ℕ → List ℕ → List ℕ
bytes_comment None whole piece = quoted_bytes piece
bytes_comment (Some Base16) whole piece = quoted Base16 piece
bytes_comment (Some Base64) whole piece = quoted Base64 whole
bytes_comment (Some Base64Url) whole piece = quoted Base64Url whole

abbrev pub text_comment : List ℕ → List ℕ
text_comment piece = codes "\"" ++ escaped_text piece ++ codes "\""

abbrev pub empty_comment : List ℕ
empty_comment = codes "\"\""

abbrev pub break_comment : List ℕ
break_comment = codes "break"
