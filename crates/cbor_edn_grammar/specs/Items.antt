-- The item at the front of an EDN text (`read_item`): which kind of item begins there, and how containers, strings in
-- chunks, tags, simple values and dates (`dt'..'`) are read. Numbers, strings and addresses have their own files.
use Rattle.std.specs.Prelude.{ℕ, zero, suc, List, [], ◌∷◌, length, codes, Option, Some, None, Bool, true, false}
use Rattle.std.specs.Prelude.{◌==◌, ◌&&◌, ◌||◌, ◌+◌, if◌then◌else◌, nat_le, nat_lt, bytes_eq, take, drop, position}
use Rattle.std.specs.Prelude.{slice_index}
use Rattle.std.specs.List.{list_any}
use Rattle.std.specs.Str.{is_utf8}
use Rattle.cbor_notes.specs.DateTime.{epoch_of_datetime}
use Rattle.cbor_grammar.specs.declared.width.IntegerWidth.{IntegerWidth}
use Rattle.cbor_grammar.specs.declared.width.IntegerWidth.TheVariants.{Unknown}
use Rattle.cbor_grammar.specs.declared.strings.StringKind.{StringKind}
use Rattle.cbor_grammar.specs.declared.strings.StringKind.TheVariants.{Bytes, Text}
use Rattle.cbor_grammar.specs.Item as spec
use Rattle.cbor_grammar.specs.Item.{Atom, integer, simple, string, chunked_string, Chunk, Item, atom, array, tagged}
use Rattle.cbor_grammar.specs.Item.{items_of, pairs_of}
use Rattle.cbor_grammar.specs.Written.{encoded_items}
use Rattle.cbor_edn_grammar.specs.declared.close.Close.TheVariants.{Bracket, Brace, Parenthesis, Angles}
use Rattle.cbor_edn_grammar.specs.declared.close.Close.{Close}
use Rattle.cbor_edn_grammar.specs.declared.opening.Opening.{Opening}
use Rattle.cbor_edn_grammar.specs.Reading.{Read, ◌>>=◌, after_byte}
use Rattle.cbor_edn_grammar.specs.Blank.{skip_blank}
use Rattle.cbor_edn_grammar.specs.Word.{word_of, after_word, begins_number}
use Rattle.cbor_edn_grammar.specs.Number.{fits, integer_of, tag_number, unsigned}
use Rattle.cbor_edn_grammar.specs.Float.{is_float, float_word, special_word, float_of_bytes}
use Rattle.cbor_edn_grammar.specs.Big.{big_item}
use Rattle.cbor_edn_grammar.specs.Address.{ip_item, tagged_ip}
use Rattle.cbor_edn_grammar.specs.Digits.{read_digits}
use Rattle.cbor_edn_grammar.specs.declared.opening.Base.TheVariants.{Hex}
use Rattle.std.specs.Option.{option_or}
use Rattle.cbor_edn_grammar.specs.Strings.{opening_of, begins_string, kind_of, read_content, chunk_of, read_string}
use Rattle.cbor_edn_grammar.specs.Lists.{separated, read_length, read_members}

-- a string of definite length, which a comma keeps apart from the next one
abbrev pub is_string : Item → Bool
is_string (atom (string kind chunk)) = true
is_string item = false

-- a member of a list, by itself, and whether another one follows
abbrev pub item_turn : (List ℕ → Read Item) → Close → List ℕ → Option (List Item × Bool × List ℕ)
item_turn read close text =
    read text >>= λ i. separated close (is_string i.0) i.1 >>= λ s. Some (i.0 ∷ [], s.0, s.1)

-- a key, `:` and its value, and whether another key follows
abbrev pub pair_turn : (List ℕ → Read Item) → List ℕ → Option (List (Item × Item) × Bool × List ℕ)
pair_turn read text =
    read text >>= λ k. after_byte 58 (skip_blank k.1) >>= λ colon. read (skip_blank colon)
    >>= λ v. separated Brace (is_string v.0) v.1 >>= λ s. Some ((k.0, v.0) ∷ [], s.0, s.1)

-- the bytes of the items of `<<`, up to `>>`
abbrev pub read_embedded : (List ℕ → Read Item) → List ℕ → Read (List ℕ)
read_embedded read text = read_members (item_turn read Angles) Angles text
    >>= λ is. Some (encoded_items (items_of is.0), is.1)

abbrev pub same_kind : StringKind → StringKind → Bool
same_kind Bytes Bytes = true
same_kind Text Text = true
same_kind a b = false

-- a chunk: a string of definite length of this kind
abbrev pub chunk_from : StringKind → StringKind → List ℕ → Option IntegerWidth → Option Chunk
chunk_from kind found bytes None = None
chunk_from kind found bytes (Some width) = if same_kind kind found then chunk_of kind bytes width else None

abbrev pub chunk_turn : (List ℕ → Read Item) → StringKind → List ℕ → Option (List Chunk × Bool × List ℕ)
chunk_turn read kind text =
    read_content (read_embedded read) text >>= λ c. chunk_from kind c.0.0 c.0.1 c.0.2
    >>= λ chunk. separated Parenthesis true c.1 >>= λ s. Some (chunk ∷ [], s.0, s.1)

-- an indefinite-length string has the kind of its first chunk, and is one of bytes if it has no chunks
abbrev pub kind_from : Read Opening → StringKind
kind_from None = Bytes
kind_from (Some o) = kind_of o.0

abbrev pub first_kind : List ℕ → StringKind
first_kind text = kind_from (opening_of (skip_blank text))

abbrev pub chunks_after : (List ℕ → Read Item) → Option IntegerWidth → List ℕ → Read Item
chunks_after read (Some width) text = None
chunks_after read None text = read_members (chunk_turn read (first_kind text)) Parenthesis text
    >>= λ cs. Some (atom (chunked_string (first_kind text) cs.0), cs.1)

-- the count of a container fits the width that is stated for it
abbrev pub fits_count : Option IntegerWidth → ℕ → Bool
fits_count None n = true
fits_count (Some width) n = fits width n

abbrev pub array_of : Option IntegerWidth → List Item → Option Item
array_of width items = if fits_count width (length items) then Some (array (items_of items) width) else None

abbrev pub map_of : Option IntegerWidth → List (Item × Item) → Option Item
map_of width pairs = if fits_count width (length pairs) then Some (spec.map (pairs_of pairs) width) else None

abbrev pub read_array : (List ℕ → Read Item) → List ℕ → Read Item
read_array read text =
    read_length Bracket text >>= λ w. read_members (item_turn read Bracket) Bracket w.1
    >>= λ is. array_of w.0 is.0 >>= λ i. Some (i, is.1)

abbrev pub read_map : (List ℕ → Read Item) → List ℕ → Read Item
read_map read text =
    read_length Brace text >>= λ w. read_members (pair_turn read) Brace w.1
    >>= λ ps. map_of w.0 ps.0 >>= λ i. Some (i, ps.1)

abbrev pub read_chunks : (List ℕ → Read Item) → List ℕ → Read Item
read_chunks read text = read_length Parenthesis text >>= λ w. chunks_after read w.0 w.1

-- what is in the parenthesis of a tag, after that opened
abbrev pub read_tagged : (List ℕ → Read Item) → ℕ → IntegerWidth → List ℕ → Read Item
read_tagged read n width text =
    read (skip_blank text) >>= λ i. after_byte 41 (skip_blank i.1) >>= λ rest. Some (tagged n width i.0, rest)

abbrev pub integer_item : List ℕ → Option Item
integer_item word = integer_of word >>= λ a. Some (atom a)

-- a number that is an item by itself: by its form a float or an integer; this many levels are left for items in it
abbrev pub number_item : ℕ → List ℕ → Option Item
number_item left word = if is_float word then (float_word word >>= λ a. Some (atom a))
    else option_or (integer_item word) (big_item left word)

-- a number, or a tag where a parenthesis follows
abbrev pub number_or_tag : ℕ → (List ℕ → Read Item) → List ℕ → List ℕ → Option (List ℕ) → Read Item
number_or_tag left read word rest None = number_item left word >>= λ i. Some (i, rest)
number_or_tag left read word rest (Some inner) = tag_number word >>= λ t. read_tagged read t.0 t.1 inner

abbrev pub read_number : ℕ → (List ℕ → Read Item) → List ℕ → Read Item
read_number left read text = number_or_tag left read (word_of text) (after_word text) (after_byte 40 (after_word text))

-- a simple value that has a name
abbrev pub named : List ℕ → Option ℕ
named word =
    if bytes_eq word (codes "false") then Some 20
    else if bytes_eq word (codes "true") then Some 21
    else if bytes_eq word (codes "null") then Some 22
    else if bytes_eq word (codes "undefined") then Some 23
    else None

-- a simple value has this number: RFC 8949 section 3.3 has none from 24 to 31
abbrev pub is_simple : ℕ → Bool
is_simple n = nat_lt n 24 || (nat_le 32 n && nat_lt n 256)

-- a simple value's number, of no stated width
abbrev pub simple_number : ℕ → IntegerWidth → Option ℕ
simple_number n Unknown = if is_simple n then Some n else None
simple_number n width = None

-- what is in the parentheses of `simple(..)`, after they opened
abbrev pub read_simple : List ℕ → Read Item
read_simple text =
    unsigned (word_of text) >>= λ u. simple_number u.0 u.1 >>= λ n. after_byte 41 (skip_blank (after_word text))
    >>= λ rest. Some (atom (simple n), rest)

-- the bits of a float, after `float'`
abbrev pub read_float : List ℕ → Read Item
read_float text = read_digits Hex text >>= λ d. float_of_bytes d.0 >>= λ a. Some (atom a, d.1)

-- a word that is an item: a simple value, NaN or an infinity
abbrev pub name_item : List ℕ → Option Item
name_item word = option_or (named word >>= λ n. Some (atom (simple n))) (special_word word >>= λ a. Some (atom a))

-- ---- dates with a time, as seconds from 1970-01-01T00:00:00Z (RFC 8949 section 3.4.2)

-- seconds before 1970 with a fraction, which counts forward from them: these are no decimal number
abbrev pub is_split : List ℕ → Bool
is_split seconds = (slice_index seconds 0 == 45) && list_any (λ b. b == 46) seconds

-- the number that the text of some seconds writes
unfoldable pub seconds_item : ℕ → List ℕ → Option Item
seconds_item left seconds = if is_split seconds then None else number_item left seconds

-- a text that is UTF-8
unfoldable pub utf8_text : List ℕ → Option (List ℕ)
utf8_text content = if is_utf8 content then Some content else None

-- the seconds of a date with a time of day and an offset
unfoldable pub date_item : ℕ → List ℕ → Option Item
date_item left content = utf8_text content >>= λ text. epoch_of_datetime text >>= λ seconds. seconds_item left seconds

-- the same below tag 1, if a level is left for it
unfoldable pub tagged_date : ℕ → List ℕ → Option Item
tagged_date zero content = None
tagged_date (suc left) content = date_item left content >>= λ i. Some (tagged 1 Unknown i)

-- what is before the next apostrophe
abbrev pub quoted_item : (List ℕ → Option Item) → List ℕ → Read Item
quoted_item item text = position (λ b. b == 39) text >>= λ n. item (take n text) >>= λ i. Some (i, drop (n + 1) text)

abbrev pub is_prefix : List ℕ → Bool
is_prefix word = bytes_eq word (codes "float") || (bytes_eq word (codes "dt") || (bytes_eq word (codes "DT")
    || (bytes_eq word (codes "ip") || bytes_eq word (codes "IP"))))

-- what follows a word and an apostrophe
abbrev pub read_prefixed : ℕ → List ℕ → List ℕ → Read Item
read_prefixed left word text =
    if bytes_eq word (codes "float") then read_float text
    else if bytes_eq word (codes "dt") then quoted_item (date_item left) text
    else if bytes_eq word (codes "DT") then quoted_item (tagged_date left) text
    else if bytes_eq word (codes "ip") then quoted_item (ip_item left) text
    else if bytes_eq word (codes "IP") then quoted_item (tagged_ip left) text
    else None

abbrev pub word_or_prefix : ℕ → List ℕ → List ℕ → Option (List ℕ) → Read Item
word_or_prefix left word rest None = name_item word >>= λ i. Some (i, rest)
word_or_prefix left word rest (Some content) = read_prefixed left word content

abbrev pub read_word : ℕ → List ℕ → List ℕ → Read Item
read_word left word rest =
    if bytes_eq word (codes "simple") then (after_byte 40 rest >>= λ inner. read_simple (skip_blank inner))
    else word_or_prefix left word rest (after_byte 39 rest)

abbrev pub read_name : ℕ → List ℕ → Read Item
read_name left text = read_word left (word_of text) (after_word text)

-- An item other than a string, by its first byte. The number says how many levels are left for the items in it.
abbrev pub other_item : ℕ → (List ℕ → Read Item) → List ℕ → Read Item
other_item left read [] = None
other_item left read (b ∷ text) =
    if b == 91 then read_array read text
    else if b == 123 then read_map read text
    else if b == 40 then read_chunks read text
    else if begins_number (b ∷ text) then read_number left read (b ∷ text)
    else read_name left (b ∷ text)

unfoldable pub read_core : ℕ → (List ℕ → Read Item) → List ℕ → Read Item
read_core left read text =
    if begins_string text then read_string (read_embedded read) text else other_item left read text

-- an item without blanks round it, with `left` levels left for it and the items in it, those in `<<` `>>` too
unfoldable pub read_item : ℕ → List ℕ → Read Item
read_item zero text = None
read_item (suc left) text = read_core left (read_item left) text
