-- JSON as a dialect of notation (RFC 8949 section 6.1; `json_leaves`): how numbers and strings are written, what is
-- written around members, and which byte strings are written as the item in them. A key that is a text is written as it
-- is, an integer key by its digits, and any other key as its EDN, without widths and with its chunks joined.
use Rattle.std.specs.Prelude.{◌≡◌, ◌⊎◌, ℕ, ◌+◌, List, [], ◌++◌, codes, Bool, true, false, Some, None, ◌&&◌, ◌||◌}
use Rattle.std.specs.Prelude.{if◌then◌else◌, nat_le, ◌==◌, Option, length}
use Rattle.std.specs.Float.{float_is_finite}
use Rattle.std.specs.Float.Ieee.{Float}
use Rattle.std.specs.Fmt.{sign_text}
use Rattle.hex.specs.Hex.{encode_lower, encode_upper}
use Rattle.cbor_inside.specs.Rule.{content_under}
use Rattle.cbor_json.specs.Decimal.{number_of, if_more, IsDecimal}
use Rattle.cbor_floats.specs.declared.float.EncodedFloat.{EncodedFloat}
use Rattle.cbor_floats.specs.declared.float.EncodedFloat.TheVariants.{Half, Single, Double}
use Rattle.cbor_floats.specs.Decimal.{IsTextOf}
use Rattle.cbor_floats.specs.Value.{value_of, IsEncodingOf}
use Rattle.cbor_tokens.specs.Escapes.{escaped_text}
use Rattle.cbor_grammar.specs.declared.encoding.Encoding.{Encoding}
use Rattle.cbor_grammar.specs.declared.encoding.Encoding.TheVariants.{Base16, Base64Url}
use Rattle.cbor_grammar.specs.declared.layout.Content.{Content}
use Rattle.cbor_grammar.specs.declared.layout.Content.TheVariants as shown
use Rattle.cbor_grammar.specs.declared.strings.StringKind.{StringKind}
use Rattle.cbor_grammar.specs.declared.strings.StringKind.TheVariants as kind
use Rattle.cbor_grammar.specs.declared.width.FloatWidth.{FloatWidth}
use Rattle.cbor_grammar.specs.declared.width.FloatWidth.TheVariants as float_width
use Rattle.cbor_grammar.specs.declared.width.IntegerWidth.TheVariants.{Unknown}
use Rattle.cbor_grammar.specs.Estimate.{one_line_limit}
use Rattle.cbor_grammar.specs.Item.{Chunk, Atom, integer, negative, float, simple}
use Rattle.cbor_grammar.specs.NotationText.{number, float_text, simple_text, quoted, encoded_bytes, encoding_below}
use Rattle.cbor_notation_writer.specs.Dialect.{Leaves, Texts, style_within}
use Rattle.cbor_notation_writer.specs.declared.parts.Container.{Container}
use Rattle.cbor_notation_writer.specs.declared.parts.Container.TheVariants.{Array, Map, Chunks, Embedded}
use Rattle.cbor_json.specs.Roles.{inside_role, next_role, value_role, below_role}
use Rattle.cbor_json.specs.declared.print.place.JsonPlace.{JsonPlace}
use Rattle.cbor_json.specs.declared.print.place.Role.{Role}
use Rattle.cbor_json.specs.declared.print.place.Role.TheVariants as role

-- ---- numbers

abbrev pub integer_text : ℕ → List ℕ
integer_text n = number n Unknown

-- by the number that is encoded, which is one less than the amount
abbrev pub negative_text : ℕ → List ℕ
negative_text n = codes "-" ++ number (n + 1) Unknown

-- the bits as they are encoded; an unstated width is 64 bits
abbrev pub encoded_float : ℕ → FloatWidth → EncodedFloat
encoded_float bits float_width.Sixteen = Half bits
encoded_float bits float_width.ThirtyTwo = Single bits
encoded_float bits w = Double bits

-- the digits of a finite number, always with a point or an exponent; JSON has no others
abbrev pub NumberIf : Bool → Float → Texts
NumberIf true x t = IsTextOf t x
NumberIf false x t = t ≡ codes "null"

abbrev pub NumberOrNull : Float → Texts
NumberOrNull x t = NumberIf (float_is_finite x) x t

-- in EDN: the number or its word, and by its bits where these are not those of its number
abbrev pub EdnFloat : EncodedFloat → List ℕ → Texts
EdnFloat f by_bits t =
    (IsEncodingOf f (value_of f) × IsTextOf t (value_of f)) ⊎ (¬ (IsEncodingOf f (value_of f)) × (t ≡ by_bits))

-- ---- what holds no item, as a value and in a key

-- of the simple values JSON has three; the others are null
abbrev pub json_simple : ℕ → List ℕ
json_simple n = if n == 20 then codes "false" else if n == 21 then codes "true" else codes "null"

abbrev pub ValueLeaf : Atom → Texts
ValueLeaf (integer n w) t = t ≡ integer_text n
ValueLeaf (negative n w) t = t ≡ negative_text n
ValueLeaf (float bits w) t = NumberOrNull (value_of (encoded_float bits w)) t
ValueLeaf (simple n) t = t ≡ json_simple n
ValueLeaf other t = ⊥

abbrev pub EdnLeaf : Atom → Texts
EdnLeaf (integer n w) t = t ≡ integer_text n
EdnLeaf (negative n w) t = t ≡ negative_text n
EdnLeaf (float bits w) t = EdnFloat (encoded_float bits w) (float_text bits w) t
EdnLeaf (simple n) t = t ≡ simple_text n
EdnLeaf other t = ⊥

-- a JSON string of this content
abbrev pub in_quotes : List ℕ → List ℕ
in_quotes t = codes "\"" ++ (t ++ codes "\"")

-- one of these texts between quotes
abbrev pub InQuotes : Texts → Texts
InQuotes texts t = (core : List ℕ) × texts core × (t ≡ in_quotes core)

abbrev pub LeafAt : Role → Atom → Texts
LeafAt role.Key a t = InQuotes (EdnLeaf a) t
LeafAt role.InKey a t = EdnLeaf a t
LeafAt s a t = ValueLeaf a t

-- ---- bytes

-- the tags of big numbers (RFC 8949 section 3.4.3)
abbrev pub is_big_tag : Option ℕ → Bool
is_big_tag None = false
is_big_tag (Some tag) = (tag == 2) || (tag == 3)

-- The number below tag 3 is one less than the amount.
abbrev pub is_negative_tag : Option ℕ → Bool
is_negative_tag None = false
is_negative_tag (Some tag) = tag == 3

-- the digits of bytes that are asked for (RFC 4648): hex has upper-case letters
abbrev pub digits_in : Encoding → List ℕ → List ℕ
digits_in Base16 b = encode_upper b
digits_in e b = encoded_bytes e b

-- The bytes of a value as digits. Those of a big number are in base64url, whatever is asked for, and those of a
-- negative one have a tilde before them.
abbrev pub value_digits : Option ℕ → Encoding → List ℕ → List ℕ
value_digits tag e b =
    if is_negative_tag tag then codes "~" ++ encoded_bytes Base64Url b
    else if is_big_tag tag then encoded_bytes Base64Url b
    else digits_in e b

-- ---- strings

-- the content of a text in EDN that is in a JSON string: escaped for EDN, and that for JSON
abbrev pub twice_escaped : List ℕ → List ℕ
twice_escaped s = escaped_text (escaped_text s)

-- a text in such EDN, and bytes
abbrev pub edn_string : StringKind → Chunk → List ℕ
edn_string kind.Bytes c = quoted Base16 c.bytes
edn_string kind.Text c = codes "\\\"" ++ (twice_escaped c.bytes ++ codes "\\\"")

abbrev pub string_at : JsonPlace → Role → StringKind → Chunk → List ℕ
string_at p role.InKey k c = edn_string k c
string_at p role.Key kind.Bytes c = in_quotes (quoted Base16 c.bytes)
string_at p s kind.Bytes c = in_quotes (value_digits p.tag p.encoding c.bytes)
string_at p s kind.Text c = in_quotes (escaped_text c.bytes)

-- ---- big numbers by their decimal digits

-- no key, and no part of one
abbrev pub is_value : Role → Bool
is_value role.Key = false
is_value role.InKey = false
is_value s = true

abbrev pub is_bytes : StringKind → Bool
is_bytes kind.Bytes = true
is_bytes kind.Text = false

-- a byte string that is written by the digits of its number: a value, right below such a tag, of at most 1,024 bytes
abbrev pub is_big : JsonPlace → StringKind → List ℕ → Bool
is_big p k b = is_bytes k && (is_value p.role && (is_big_tag p.tag && nat_le (length b) 1024))

abbrev pub BigText : Bool → List ℕ → Texts
BigText minus b t =
    (digits : List ℕ) × IsDecimal (if_more minus (number_of b)) digits × (t ≡ sign_text minus ++ digits)

abbrev pub StringIf : Bool → JsonPlace → StringKind → Chunk → Texts
StringIf true p k c t = BigText (is_negative_tag p.tag) c.bytes t
StringIf false p k c t = t ≡ string_at p p.role k c

-- a string of definite length, or the joined chunks of one
abbrev pub StringAt : JsonPlace → StringKind → Chunk → Texts
StringAt p k c t = StringIf (is_big p k c.bytes) p k c t

-- a chunk, without quotes
abbrev pub part_at : JsonPlace → Role → StringKind → Chunk → List ℕ
part_at p role.InKey kind.Text c = twice_escaped c.bytes
part_at p s kind.Text c = escaped_text c.bytes
part_at p role.Key kind.Bytes c = encode_lower c.bytes
part_at p role.InKey kind.Bytes c = encode_lower c.bytes
part_at p s kind.Bytes c = digits_in p.encoding c.bytes

-- ---- lists

-- in EDN that is in a JSON string
abbrev pub edn_opening : Container → List ℕ
edn_opening (Array count) = codes "["
edn_opening (Map count) = codes "{"
edn_opening (Chunks kind.Bytes) = codes "h'"
edn_opening (Chunks kind.Text) = codes "\\\""
edn_opening (Embedded len) = codes "<<"

abbrev pub edn_closing : Container → List ℕ
edn_closing (Array count) = codes "]"
edn_closing (Map count) = codes "}"
edn_closing (Chunks kind.Bytes) = codes "'"
edn_closing (Chunks kind.Text) = codes "\\\""
edn_closing (Embedded len) = codes ">>"

-- a key begins and ends with a quote; one of the chunks of a text is that text, and any other is EDN
abbrev pub key_opening : Container → List ℕ
key_opening (Array count) = codes "\"["
key_opening (Map count) = codes "\"{"
key_opening (Chunks kind.Bytes) = codes "\"h'"
key_opening (Chunks kind.Text) = codes "\""
key_opening (Embedded len) = codes "\"<<"

abbrev pub key_closing : Container → List ℕ
key_closing (Array count) = codes "]\""
key_closing (Map count) = codes "}\""
key_closing (Chunks kind.Bytes) = codes "'\""
key_closing (Chunks kind.Text) = codes "\""
key_closing (Embedded len) = codes ">>\""

-- an item in a byte string is as it is, and joined chunks are one string
abbrev pub value_opening : Container → List ℕ
value_opening (Array count) = codes "["
value_opening (Map count) = codes "{"
value_opening (Chunks k) = codes "\""
value_opening (Embedded len) = []

abbrev pub value_closing : Container → List ℕ
value_closing (Array count) = codes "]"
value_closing (Map count) = codes "}"
value_closing (Chunks k) = codes "\""
value_closing (Embedded len) = []

abbrev pub opening_at : Role → Container → List ℕ
opening_at role.Key c = key_opening c
opening_at role.InKey c = edn_opening c
opening_at s c = value_opening c

abbrev pub closing_at : Role → Container → List ℕ
closing_at role.Key c = key_closing c
closing_at role.InKey c = edn_closing c
closing_at s c = value_closing c

-- a string of no chunks
abbrev pub empty_at : Role → StringKind → List ℕ
empty_at role.Key kind.Bytes = codes "\"h''\""
empty_at role.InKey kind.Bytes = codes "h''"
empty_at role.InKey kind.Text = codes "\\\"\\\""
empty_at s k = codes "\"\""

-- the bytes of chunks are joined before they are made digits
abbrev pub joins_at : Role → StringKind → Bool
joins_at role.Value kind.Bytes = true
joins_at role.Named kind.Bytes = true
joins_at s k = false

-- chunks are joined
abbrev pub before_member : Container → Bool → List ℕ
before_member (Chunks k) first = []
before_member c first = if first then [] else codes ", "

-- ---- tags

abbrev pub tag_at : Role → ℕ → List ℕ
tag_at role.Key n = codes "\"" ++ (integer_text n ++ codes "(")
tag_at role.InKey n = integer_text n ++ codes "("
tag_at s n = []

abbrev pub tag_end_at : Role → List ℕ
tag_end_at role.Key = codes ")\""
tag_end_at role.InKey = codes ")"
tag_end_at s = []

-- ---- byte strings as items

-- no value of JSON is a sequence of items
abbrev pub but_sequence : Content → Content
but_sequence shown.Sequence = shown.Bytes
but_sequence shows = shows

-- With `embedded`, a value that is a byte string is opened by the rule of `cbor_inside`.
abbrev pub content_if : Bool → JsonPlace → List ℕ → Content
content_if true p b = but_sequence (content_under true p.level p.tag b)
content_if false p b = shown.Bytes

abbrev pub content_at : JsonPlace → List ℕ → Content
content_at p b = content_if (p.style.embedded && is_value p.role) p b

-- ---- the dialect

abbrev pub json_leaves : Leaves JsonPlace
json_leaves = record {
  At = λ p q. q ≡ p;
  level = λ p. p.level;
  layout = λ p. p.layout;
  style = λ p size. style_within one_line_limit p.layout size;
  content = content_at;
  joins = λ p k. joins_at p.role k;
  inside = λ c layout p. record {
    alloc = p.alloc;
    level = p.level + 1;
    layout = layout;
    style = p.style;
    role = inside_role c p.role;
    encoding = p.encoding;
    tag = None;
    marks = p.marks;
  };
  next = λ p. record {
    alloc = p.alloc;
    level = p.level;
    layout = p.layout;
    style = p.style;
    role = next_role p.role;
    encoding = p.encoding;
    tag = p.tag;
    marks = p.marks;
  };
  value = λ k p. record {
    alloc = p.alloc;
    level = p.level;
    layout = p.layout;
    style = p.style;
    role = value_role p.role;
    encoding = p.encoding;
    tag = p.tag;
    marks = p.marks;
  };
  below = λ n p. record {
    alloc = p.alloc;
    level = p.level + 1;
    layout = p.layout;
    style = p.style;
    role = below_role p.role;
    encoding = encoding_below n p.encoding;
    tag = Some n;
    marks = p.marks;
  };
  leaf = λ p a t. LeafAt p.role a t;
  string = StringAt;
  part = λ p k c t. t ≡ part_at p p.role k c;
  no_parts = λ p k t. t ≡ empty_at p.role k;
  opening = λ p c l t. t ≡ opening_at p.role c;
  closing = λ p c l t. t ≡ closing_at p.role c;
  rest = λ p c b t. t ≡ [];
  tag = λ p n w t. t ≡ tag_at p.role n;
  tag_end = λ p n t. t ≡ tag_end_at p.role;
  start = λ c l first. before_member c first;
  end = λ c l. [];
  colon = λ l. codes ": ";
}
