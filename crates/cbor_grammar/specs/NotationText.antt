-- Diagnostic notation as it is written (RFC 7049 section 6): what compact and pretty text share. They differ only in
-- their `Layout`.
use Rattle.std.specs.Prelude.{ℕ, zero, suc, ◌+◌, List, [], ◌∷◌, ◌++◌, map, replicate, codes, Option, Some, None}
use Rattle.std.specs.Prelude.{nat_lt, ◌==◌, if◌then◌else◌}
use Rattle.std.specs.List.{flat_map}
use Rattle.std.specs.Fmt.{decimal}
use Rattle.std.specs.Int.{w16, w32, w64, to_be_bytes}
use Rattle.hex.specs.Hex.{encode_lower}
use Rattle.cbor_tokens.specs.Ascii.{line_feed, space, quote}
use Rattle.cbor_tokens.specs.Base64.{standard, url_safe}
use Rattle.cbor_tokens.specs.Token.{in_quotes}
use Rattle.cbor_grammar.specs.declared.width.IntegerWidth.{IntegerWidth}
use Rattle.cbor_grammar.specs.declared.width.IntegerWidth.TheVariants as width
use Rattle.cbor_grammar.specs.declared.width.FloatWidth.{FloatWidth}
use Rattle.cbor_grammar.specs.declared.width.FloatWidth.TheVariants as float_width
use Rattle.cbor_grammar.specs.declared.encoding.Encoding.{Encoding}
use Rattle.cbor_grammar.specs.declared.encoding.Encoding.TheVariants.{Base16, Base64, Base64Url}
use Rattle.cbor_grammar.specs.declared.layout.Content.TheVariants as content
use Rattle.cbor_grammar.specs.Context.{Context}
use Rattle.cbor_grammar.specs.declared.layout.Content.{Content}
use Rattle.cbor_grammar.specs.declared.layout.Layout.{Layout}
use Rattle.cbor_grammar.specs.declared.layout.Layout.TheVariants.{Compact, Pretty}
use Rattle.cbor_grammar.specs.declared.layout.ContainerStyle.TheVariants as style
use Rattle.cbor_grammar.specs.declared.layout.ContainerStyle.{ContainerStyle}
use Rattle.cbor_grammar.specs.declared.layout.ContainerStyle.TheVariants.{OneLine, MultiLine}
use Rattle.cbor_grammar.specs.declared.strings.StringKind.{StringKind}
use Rattle.cbor_grammar.specs.declared.strings.StringKind.TheVariants.{Bytes, Text}
use Rattle.cbor_grammar.specs.StringKind.{no_chunks}
use Rattle.cbor_grammar.specs.Item as spec
use Rattle.cbor_grammar.specs.Item.{Chunk, Atom, integer, negative, string, chunked_string}
use Rattle.cbor_grammar.specs.Item.{float, simple, Item, atom, array, tagged, Items, no_items, item, Pairs, no_pairs}
use Rattle.cbor_grammar.specs.Item.{pair}
use Rattle.cbor_grammar.specs.Embedded.{embedded_at, sequence_at}
use Rattle.cbor_grammar.specs.WellFormed.{levels_left}
use Rattle.cbor_grammar.specs.Estimate.{estimated_length, one_line_limit}

-- ---- numbers, strings, floats, simple values

-- the encoding indicator of a width
abbrev pub indicator : IntegerWidth → List ℕ
indicator width.Unknown = []
indicator width.Zero = []
indicator width.Eight = codes "_0"
indicator width.Sixteen = codes "_1"
indicator width.ThirtyTwo = codes "_2"
indicator width.SixtyFour = codes "_3"

-- a number or a tag
abbrev pub number : ℕ → IntegerWidth → List ℕ
number n w = decimal n ++ indicator w

-- the prefix of quoted bytes
abbrev pub prefix : Encoding → List ℕ
prefix Base16 = codes "h"
prefix Base64 = codes "b64"
prefix Base64Url = codes "b64"

abbrev pub encoded_bytes : Encoding → List ℕ → List ℕ
encoded_bytes Base16 b = encode_lower b
encoded_bytes Base64 b = standard b
encoded_bytes Base64Url b = url_safe b

-- bytes between quotes, in the encoding that is in force
abbrev pub quoted : Encoding → List ℕ → List ℕ
quoted e b = prefix e ++ (codes "'" ++ (encoded_bytes e b ++ codes "'"))

-- a text between quotes, where a quote and a backslash are escaped
abbrev pub text : List ℕ → List ℕ
text b = codes "\"" ++ (in_quotes quote b ++ codes "\"")

-- a float by its bits, an unstated width being 64 bits
abbrev pub float_bits : ℕ → FloatWidth → List ℕ
float_bits n float_width.Unknown = to_be_bytes w64 n
float_bits n float_width.Sixteen = to_be_bytes w16 n
float_bits n float_width.ThirtyTwo = to_be_bytes w32 n
float_bits n float_width.SixtyFour = to_be_bytes w64 n

abbrev pub float_text : ℕ → FloatWidth → List ℕ
float_text n w = codes "float'" ++ (encode_lower (float_bits n w) ++ codes "'")

abbrev pub simple_text : ℕ → List ℕ
simple_text n =
    if n == 20 then codes "false"
    else if n == 21 then codes "true"
    else if n == 22 then codes "null"
    else if n == 23 then codes "undefined"
    else codes "simple(" ++ (decimal n ++ codes ")")

-- ---- members of containers

-- a new line with this many blanks
abbrev pub line : ℕ → List ℕ
line indent = line_feed ∷ replicate indent space

-- one line or several, as pretty text has it: one where the container is short
abbrev pub container_style : Layout → ℕ → ContainerStyle
container_style Compact size = style.Compact
container_style (Pretty indent) size = if nat_lt size one_line_limit then OneLine indent else MultiLine indent

-- the layout of the members
abbrev pub members_layout : ContainerStyle → Layout
members_layout style.Compact = Compact
members_layout (OneLine indent) = Pretty indent
members_layout (MultiLine indent) = Pretty (indent + 4)

-- the indent of a layout, which is a number of blanks that the code can count
abbrev pub indent_of : Layout → ℕ
indent_of Compact = 0
indent_of (Pretty indent) = indent

abbrev pub style_indent : ContainerStyle → ℕ
style_indent style.Compact = 0
style_indent (OneLine indent) = indent
style_indent (MultiLine indent) = indent

-- texts with a separator between them
abbrev pub separated : List ℕ → List (List ℕ) → List ℕ
separated separator [] = []
separated separator (m ∷ ms) = m ++ flat_map (λ x. separator ++ x) ms

-- the members, each already written: with a comma between them, or each on a line with a comma after it
abbrev pub members : ContainerStyle → List (List ℕ) → List ℕ
members style.Compact ms = separated (codes ",") ms
members (OneLine indent) ms = separated (codes ", ") ms
members (MultiLine indent) ms = flat_map (λ m. line (indent + 4) ++ (m ++ codes ",")) ms

-- what is before the closing bracket
abbrev pub last_line : ContainerStyle → List ℕ
last_line (MultiLine indent) = line indent
last_line _ = []

-- members between brackets
abbrev pub bracketed : ContainerStyle → List ℕ → List (List ℕ) → List ℕ → List ℕ
bracketed l opening ms closing = opening ++ (members l ms ++ (last_line l ++ closing))

-- an indefinite length has an underscore after its bracket, and on one line a blank
abbrev pub mark : ContainerStyle → List ℕ
mark (OneLine indent) = codes "_ "
mark _ = codes "_"

abbrev pub opened : ContainerStyle → List ℕ → Option IntegerWidth → List ℕ
opened l bracket (Some w) = bracket
opened l bracket None = bracket ++ mark l

-- between a key and its value
abbrev pub colon : ContainerStyle → List ℕ
colon style.Compact = codes ":"
colon _ = codes ": "

-- between a sequence and its rest
abbrev pub rest_gap : Layout → List ℕ
rest_gap Compact = []
rest_gap (Pretty indent) = codes " "

-- ---- where an item is

-- at the beginning of a text
abbrev pub in_encoding : Layout → Encoding → Context
in_encoding l e = record { layout = l; encoding = e; content = content.Bytes }

-- tag 21 asks for base 64 that is safe in URLs, tag 22 for base 64, tag 23 for hex (RFC 7049 section
-- 2.4.4.2); it holds for all that is nested below, until another of them
abbrev pub encoding_below : ℕ → Encoding → Encoding
encoding_below t e = if t == 21 then Base64Url else if t == 22 then Base64 else if t == 23 then Base16 else e

-- the bytes right below tag 24 are an item, and those right below tag 63 a sequence of items
abbrev pub content_below : ℕ → Content
content_below t = if t == 24 then content.Item else if t == 63 then content.Sequence else content.Bytes

-- right below a tag
abbrev pub below : ℕ → Context → Context
below t c = record { layout = c.layout; encoding = encoding_below t c.encoding; content = content_below t }

-- in a container, or embedded in a byte string
abbrev pub inside : Layout → Context → Context
inside l c = in_encoding l c.encoding

-- ---- items, the items in them written by `write`

abbrev pub Writer : Type 0
Writer = Context → Item → List ℕ

abbrev pub item_texts : (Item → List ℕ) → Items → List (List ℕ)
item_texts write no_items = []
item_texts write (item i is) = write i ∷ item_texts write is

abbrev pub pair_texts : (Item → List ℕ) → List ℕ → Pairs → List (List ℕ)
pair_texts write between no_pairs = []
pair_texts write between (pair k v ps) = (write k ++ (between ++ write v)) ∷ pair_texts write between ps

-- the one item that bytes are, or the bytes
abbrev pub item_text : Writer → Context → List ℕ → Option Item → List ℕ
item_text write c b (Some e) = codes "<<" ++ (write (inside c.layout c) e ++ codes ">>")
item_text write c b None = quoted c.encoding b

abbrev pub embedded_text : Writer → Context → List ℕ → Option Item → List ℕ
embedded_text write c [] e = codes "<<>>"
embedded_text write c b e = item_text write c b e

-- what can't be read as an item follows a sequence as bytes
abbrev pub rest_text : Context → List ℕ → List ℕ
rest_text c [] = []
rest_text c b = rest_gap c.layout ++ quoted c.encoding b

-- items between brackets
abbrev pub items_text : Writer → Context → ContainerStyle → List ℕ → Items → List ℕ → List ℕ
items_text write c l opening is closing =
    bracketed l opening (item_texts (write (inside (members_layout l) c)) is) closing

abbrev pub pairs_text : Writer → Context → ContainerStyle → List ℕ → Pairs → List ℕ → List ℕ
pairs_text write c l opening ps closing =
    bracketed l opening (pair_texts (write (inside (members_layout l) c)) (colon l) ps) closing

-- the items of a sequence, laid out so, and its rest
abbrev pub sequence_listed : Writer → Context → ContainerStyle → Items × List ℕ → List ℕ
sequence_listed write c l s = items_text write c l (codes "<<") s.0 (codes ">>") ++ rest_text c s.1

-- the style of a container there
abbrev pub item_style : Context → Item → ContainerStyle
item_style c i = container_style c.layout (estimated_length i)

-- A sequence is laid out as an array of its items.
abbrev pub sequence_size : Items × List ℕ → ℕ
sequence_size s = estimated_length (array s.0 None)

abbrev pub sequence_text : Writer → Context → Items × List ℕ → List ℕ
sequence_text write c s = sequence_listed write c (container_style c.layout (sequence_size s)) s

-- The bytes of a byte string of definite length, with this many levels left below it.
abbrev pub content_text : ℕ → Writer → Content → Context → List ℕ → List ℕ
content_text left write content.Bytes c b = quoted c.encoding b
content_text left write content.Item c b = embedded_text write c b (embedded_at left b)
content_text left write content.Sequence c b = sequence_text write c (sequence_at left b)

-- A string of definite length, the bytes of a byte string in the encoding that is in force.
abbrev pub string_text : StringKind → Encoding → List ℕ → List ℕ
string_text Bytes e b = quoted e b
string_text Text e b = text b

-- an indefinite string by the texts of its chunks
abbrev pub chunks_listed : ContainerStyle → List ℕ → List (List ℕ) → List ℕ
chunks_listed l empty [] = empty
chunks_listed l empty ms = bracketed l (opened l (codes "(") None) ms (codes ")")

abbrev pub chunks_text : StringKind → Encoding → ContainerStyle → List Chunk → List ℕ
chunks_text kind e l cs = chunks_listed l (no_chunks kind) (map (λ c. string_text kind e c.bytes) cs)

abbrev pub atom_text : ℕ → Writer → Context → Atom → List ℕ
atom_text left write c (integer n w) = number n w
atom_text left write c (negative n w) = codes "-" ++ number (n + 1) w
atom_text left write c (string Bytes s) = content_text left write c.content c s.bytes
atom_text left write c (string Text s) = text s.bytes
atom_text left write c (chunked_string kind cs) =
    chunks_text kind c.encoding (item_style c (atom (chunked_string kind cs))) cs
atom_text left write c (float n w) = float_text n w
atom_text left write c (simple n) = simple_text n

abbrev pub array_text : Writer → Context → ContainerStyle → Items → Option IntegerWidth → List ℕ
array_text write c l is w = items_text write c l (opened l (codes "[") w) is (codes "]")

abbrev pub map_text : Writer → Context → ContainerStyle → Pairs → Option IntegerWidth → List ℕ
map_text write c l ps w = pairs_text write c l (opened l (codes "{") w) ps (codes "}")

-- an item with this many levels left below it, and the items in it written by `write`
abbrev pub text_with : ℕ → Writer → Context → Item → List ℕ
text_with left write c (atom a) = atom_text left write c a
text_with left write c (array is w) = array_text write c (item_style c (array is w)) is w
text_with left write c (spec.map ps w) = map_text write c (item_style c (spec.map ps w)) ps w
text_with left write c (tagged t w i) = number t w ++ (codes "(" ++ (write (below t c) i ++ codes ")"))

-- An item with this many levels left for it and what is nested in it, embedded items included: `levels_left` of its
-- level. Where none is left there is no item.
unfoldable pub text_at : ℕ → Context → Item → List ℕ
text_at zero c i = []
text_at (suc left) c i = text_with left (text_at left) c i

-- writes an item at this level
abbrev pub text_at_level : ℕ → Writer
text_at_level level = text_at (levels_left level)
