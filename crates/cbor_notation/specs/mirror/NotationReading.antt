-- Reading notation from left to right, as `parse/notation.rt` of `cbor_diag` does. `read_item` reads an item with the
-- blanks around it, and returns the item and the rest of the text, or the first error. `notation_of` reads a whole
-- text. No public clause names these functions. The proofs show that they agree with the grammar (`Reads`).
use Rattle.std.specs.Prelude.{ℕ, zero, suc, ◌+◌, ◌-◌, ◌*◌, ◌/◌, ◌%◌, ◌^◌, List, [], ◌∷◌, ◌++◌, length, take, drop, map}
use Rattle.std.specs.Prelude.{position, codes, Option, Some, None, option_and_then, unwrap_or, Result, Ok, Err, Bool}
use Rattle.std.specs.Prelude.{true, false, not, nat_lt, nat_le, nat_eq, bytes_eq, ◌==◌, ◌&&◌, ◌||◌, if◌then◌else◌}
use Rattle.std.specs.List.{starts_with, before_first, list_all}
use Rattle.std.specs.Char.{digit_value}
use Rattle.std.specs.Str.Parse.{digits_value}
use Rattle.std.specs.Int.Digits.{number_from_digits}
use Rattle.cbor_tokens.specs.Base32 as base32
use Rattle.cbor_tokens.specs.Base64 as base64
use Rattle.cbor_tokens.specs.HexDigits.{base16_of}
use Rattle.cbor_tokens.specs.Token.{is_whitespace}
use Rattle.cbor_tokens.specs.TokenReading.{after_blank, number_of, unquoted, digits_of}
use Rattle.cbor_grammar.specs.declared.width.IntegerWidth.{IntegerWidth}
use Rattle.cbor_grammar.specs.declared.width.IntegerWidth.TheVariants.{Unknown, Zero, Eight, Sixteen, ThirtyTwo}
use Rattle.cbor_grammar.specs.declared.width.FloatWidth.{FloatWidth}
use Rattle.cbor_grammar.specs.declared.width.FloatWidth.TheVariants as float_width
use Rattle.cbor_grammar.specs.declared.error.Error.{Error}
use Rattle.cbor_grammar.specs.declared.error.Error.TheVariants as refusal
use Rattle.cbor_notation.specs.declared.start.Start.{Start}
use Rattle.cbor_notation.specs.declared.start.Start.TheVariants as start
use Rattle.cbor_grammar.specs.Item as spec
use Rattle.cbor_grammar.specs.Item.{Chunk, Atom, integer, negative, string, chunked_string}
use Rattle.cbor_grammar.specs.Item.{float, simple, Item, atom, array, tagged}
use Rattle.cbor_grammar.specs.Item.{items_of, pairs_of}
use Rattle.cbor_grammar.specs.declared.strings.StringKind.{StringKind}
use Rattle.cbor_grammar.specs.declared.strings.StringKind.TheVariants.{Bytes, Text}
use Rattle.cbor_grammar.specs.StringKind.{no_chunks}
use Rattle.cbor_grammar.specs.Reading.{Read, ◌>>=◌, checked_chunk}
use Rattle.cbor_grammar.specs.Written.{encoded_items}
use Rattle.cbor_grammar.specs.Notation.{width_of, number_width}

-- what an option holds, or the refusal of what is not notation
abbrev pub or_refused : {X : Type 0} → Option X → Result X Error
or_refused None = Err refusal.Notation
or_refused (Some x) = Ok x

-- Blanks and words

-- the text after the longest blank at its front
abbrev pub skip_blank : List ℕ → List ℕ
skip_blank text = after_blank true text

-- the text after this byte, where the text begins with it
abbrev pub after_byte : ℕ → List ℕ → Option (List ℕ)
after_byte byte [] = None
after_byte byte (b ∷ text) = if b == byte then Some text else None

-- the text after this word, where the text begins with it
abbrev pub after_word : List ℕ → List ℕ → Option (List ℕ)
after_word word text = if starts_with nat_eq text word then Some (drop (length word) text) else None

-- Numbers

-- the value of one digit of a base or more
abbrev pub numeral : ℕ → List ℕ → Option ℕ
numeral radix [] = None
numeral radix (d ∷ ds) = if list_all (λ c. nat_lt (digit_value c) radix) (d ∷ ds)
    then Some (digits_value radix (d ∷ ds)) else None

-- the longest number at the front
abbrev pub read_number : List ℕ → Read (ℕ × Option ℕ)
read_number text = or_refused (number_of text) >>= λ x. Ok ((x.0, x.1), x.2)

-- one more than the greatest number of this width
abbrev pub past_width : IntegerWidth → ℕ
past_width Zero = 24
past_width Eight = 2 ^ 8
past_width Sixteen = 2 ^ 16
past_width ThirtyTwo = 2 ^ 32
past_width _ = 2 ^ 64

-- a number and its width, where it fits it
abbrev pub with_width : ℕ → Option ℕ → Result (ℕ × IntegerWidth) Error
with_width n None = if nat_lt n (2 ^ 64) then Ok (n, number_width n None) else Err refusal.Notation
with_width n (Some indicator) = if nat_lt n (past_width (width_of indicator)) then Ok (n, width_of indicator)
    else Err refusal.PastWidth

-- the number that is encoded for a negative one
abbrev pub negative_number : ℕ → Option ℕ → Result (ℕ × IntegerWidth) Error
negative_number zero indicator = Err refusal.Notation
negative_number (suc n) indicator = with_width n indicator

abbrev pub read_unsigned_number : List ℕ → Read (ℕ × IntegerWidth)
read_unsigned_number text = read_number text >>= λ x. with_width x.0.0 x.0.1 >>= λ n. Ok (n, x.1)

abbrev pub read_negative_number : List ℕ → Read (ℕ × IntegerWidth)
read_negative_number text = read_number text >>= λ x. negative_number x.0.0 x.0.1 >>= λ n. Ok (n, x.1)

abbrev pub read_negative : List ℕ → Read Item
read_negative text = read_negative_number text >>= λ n. Ok (atom (negative n.0.0 n.0.1), n.1)

-- a tag's item after its parenthesis
abbrev pub read_tagged : (List ℕ → Read Item) → ℕ → IntegerWidth → List ℕ → Read Item
read_tagged read n w text = read text >>= λ i. or_refused (after_byte 41 i.1) >>= λ rest. Ok (tagged n w i.0, rest)

-- an integer, or a tag where a parenthesis follows
abbrev pub integer_or_tag : (List ℕ → Read Item) → ℕ → IntegerWidth → List ℕ → Option (List ℕ) → Read Item
integer_or_tag read n w text None = Ok (atom (integer n w), text)
integer_or_tag read n w text (Some inner) = read_tagged read n w inner

abbrev pub read_integer : (List ℕ → Read Item) → List ℕ → Read Item
read_integer read text = read_unsigned_number text >>= λ n. integer_or_tag read n.0.0 n.0.1 n.1 (after_byte 40 n.1)

-- Lists

-- the text after the close of a list, where one or more whitespace characters come before it
abbrev pub after_space : ℕ → List ℕ → Option (List ℕ)
after_space close text = option_and_then (λ spaces. if nat_lt 0 spaces then after_byte close (drop spaces text)
    else None) (position (λ b. not (is_whitespace b)) text)

-- the text after what closes a list, where that is here: the byte, or a last comma, whitespace and it
abbrev pub after_end : ℕ → List ℕ → Option (List ℕ)
after_end close [] = None
after_end close (b ∷ text) = if b == 44 then after_space close text else after_byte close (b ∷ text)

-- the members after a comma, or none where the list is closed
abbrev pub more_members : {X : Type 0} → (List ℕ → Read (List X)) → List ℕ → Option (List ℕ) → Read (List X)
more_members read text (Some rest) = Ok ([], rest)
more_members read text None = or_refused (after_byte 44 text) >>= read

-- A member and those after it, up to what closes the list. The number bounds how many are looked for; no
-- text has more than it has bytes.
unfoldable pub members_from : {X : Type 0} → (List ℕ → Read X) → ℕ → ℕ → List ℕ → Read (List X)
members_from read close zero text = Err refusal.Notation
members_from read close (suc n) text = read text >>= λ x. more_members (members_from read close n) x.1
    (after_end close x.1) >>= λ xs. Ok (x.0 ∷ xs.0, xs.1)

abbrev pub members_or_end : {X : Type 0} → (List ℕ → Read X) → ℕ → List ℕ → Option (List ℕ) → Read (List X)
members_or_end read close text (Some rest) = Ok ([], rest)
members_or_end read close text None = members_from read close (suc (length text)) text

-- the members of a list after its opening, up to what closes it
unfoldable pub read_members : {X : Type 0} → (List ℕ → Read X) → ℕ → List ℕ → Read (List X)
read_members read close text = let first = skip_blank text in members_or_end read close first (after_end close first)

-- a key, `:` and its value
abbrev pub read_pair : (List ℕ → Read Item) → List ℕ → Read (Item × Item)
read_pair read text = read text >>= λ k. or_refused (after_byte 58 k.1) >>= λ rest. read rest
    >>= λ v. Ok ((k.0, v.0), v.1)

-- whether a list is of indefinite length, which a `_` says, and the text after that
abbrev pub length_of : List ℕ → Option (List ℕ) → Option IntegerWidth × List ℕ
length_of text None = (Some Unknown, text)
length_of text (Some rest) = (None, rest)

abbrev pub read_length : List ℕ → Option IntegerWidth × List ℕ
read_length text = length_of text (after_byte 95 text)

abbrev pub read_array : (List ℕ → Read Item) → List ℕ → Read Item
read_array read text = let opened = read_length text in read_members read 93 opened.1
    >>= λ is. Ok (array (items_of is.0) opened.0, is.1)

abbrev pub read_map : (List ℕ → Read Item) → List ℕ → Read Item
read_map read text = let opened = read_length text in read_members (read_pair read) 125 opened.1
    >>= λ ps. Ok (spec.map (pairs_of ps.0) opened.0, ps.1)

-- Strings

-- The bytes that digits are the encoding of. The last argument is the one answer that they can be; it is
-- the answer where its encoding is these digits.
abbrev pub if_encoded : (List ℕ → List ℕ) → List ℕ → List ℕ → Option (List ℕ)
if_encoded encode digits bytes = if bytes_eq (encode bytes) digits then Some bytes else None

-- the value of a digit in an alphabet
abbrev pub value_in : List ℕ → ℕ → ℕ
value_in alphabet digit = unwrap_or (position (λ c. c == digit) alphabet) 0

-- the whole bytes of digits of five bits each, eight digits at a time
abbrev pub bytes_of_fives : List ℕ → List ℕ
bytes_of_fives values = take (5 * length values / 8)
    (base32.places 256 5 (number_from_digits 32 values * 32 ^ (8 - length values)))

unfoldable pub from_fives : List ℕ → List ℕ
from_fives (a ∷ b ∷ c ∷ d ∷ e ∷ f ∷ g ∷ h ∷ values) = bytes_of_fives (a ∷ b ∷ c ∷ d ∷ e ∷ f ∷ g ∷ h ∷ [])
    ++ from_fives values
from_fives values = bytes_of_fives values

-- the whole bytes of digits of six bits each, four digits at a time
unfoldable pub from_sixes : List ℕ → List ℕ
from_sixes (a ∷ b ∷ c ∷ d ∷ values) = (a * 4 + b / 16) ∷ (b % 16 * 16 + c / 4) ∷ (c % 4 * 64 + d) ∷ from_sixes values
from_sixes (a ∷ b ∷ c ∷ []) = (a * 4 + b / 16) ∷ (b % 16 * 16 + c / 4) ∷ []
from_sixes (a ∷ b ∷ []) = (a * 4 + b / 16) ∷ []
from_sixes values = []

-- the digits before the padding
abbrev pub unpadded : List ℕ → List ℕ
unpadded digits = before_first (λ d. d == 61) digits

unfoldable pub base32_of : base32.Alphabet → List ℕ → Option (List ℕ)
base32_of alphabet digits = if_encoded (base32.encode alphabet) digits
    (from_fives (map (value_in (base32.characters alphabet)) (unpadded digits)))

-- the value of a digit in either alphabet of base 64
abbrev pub six_bits : ℕ → ℕ
six_bits digit =
    if (digit == 43) || (digit == 45) then 62
    else if (digit == 47) || (digit == 95) then 63
    else value_in (codes "ABCDEFGHIJKLMNOPQRSTUVWXYZabcdefghijklmnopqrstuvwxyz0123456789") digit

abbrev pub either : Option (List ℕ) → Option (List ℕ) → Option (List ℕ)
either None other = other
either (Some bytes) other = Some bytes

unfoldable pub base64_of : List ℕ → Option (List ℕ)
base64_of digits =
    let bytes = from_sixes (map six_bits (unpadded digits)) in
    either (if_encoded base64.url_safe digits bytes) (if_encoded base64.standard digits bytes)

-- what the digits after an opened quote are the encoding of
abbrev pub read_decoded : Bool → (List ℕ → Option (List ℕ)) → List ℕ → Read (List ℕ)
read_decoded comments decode text = or_refused (digits_of comments text) >>= λ x. or_refused (decode x.0)
    >>= λ bytes. Ok (bytes, x.1)

-- one notation of two that begin with the same letter, by the word that follows
abbrev pub either_word : {X : Type 0} → Option (List ℕ) → (List ℕ → Result X Error) → Option (List ℕ)
    → (List ℕ → Result X Error) → Result X Error
either_word (Some rest) first other second = first rest
either_word None first (Some rest) second = second rest
either_word None first None second = Err refusal.Notation

-- `h'..'` or `h32'..'`, and `b32'..'` or `b64'..'`, after the letter
abbrev pub h_notation : List ℕ → Read (List ℕ)
h_notation text = either_word (after_word (codes "'") text) (read_decoded true base16_of)
    (after_word (codes "32'") text) (read_decoded true (base32_of base32.extended_hex))

abbrev pub b_notation : List ℕ → Read (List ℕ)
b_notation text = either_word (after_word (codes "32'") text) (read_decoded true (base32_of base32.standard))
    (after_word (codes "64'") text) (read_decoded false base64_of)

-- items after the first `<` of `<<`, and their encodings
abbrev pub read_embedded : (List ℕ → Read Item) → List ℕ → Read (List ℕ)
read_embedded read text = or_refused (after_byte 60 text) >>= λ first. read_members read 62 first
    >>= λ is. or_refused (after_byte 62 is.1) >>= λ rest. Ok (encoded_items (items_of is.0), rest)

-- what begins with this byte
unfoldable pub start_of : ℕ → Start
start_of b =
    if b == 34 then start.Quote
    else if b == 39 then start.Apostrophe
    else if b == 40 then start.Parenthesis
    else if b == 45 then start.Minus
    else if nat_le 48 b && nat_le b 57 then start.Digit
    else if b == 60 then start.Angle
    else if b == 91 then start.Bracket
    else if b == 98 then start.LetterB
    else if b == 104 then start.LetterH
    else if b == 123 then start.Brace
    else start.Other

abbrev pub first_start : List ℕ → Start
first_start [] = start.Other
first_start (b ∷ text) = start_of b

abbrev pub rest_of : List ℕ → List ℕ
rest_of [] = []
rest_of (b ∷ text) = text

-- whether texts may be pieces of a string
abbrev pub takes_texts : StringKind → Bool
takes_texts Bytes = false
takes_texts Text = true

-- whether a piece of a string of this kind begins so
abbrev pub begins_piece : StringKind → Start → Bool
begins_piece kind start.Quote = takes_texts kind
begins_piece kind start.Apostrophe = true
begins_piece kind start.Angle = true
begins_piece kind start.LetterB = true
begins_piece kind start.LetterH = true
begins_piece kind _ = false

-- a piece of a string, by its first byte and what follows that
abbrev pub piece_of : (List ℕ → Read Item) → Start → List ℕ → Read (List ℕ)
piece_of read start.Quote text = or_refused (unquoted 34 false text)
piece_of read start.Apostrophe text = or_refused (unquoted 39 false text)
piece_of read start.Angle text = read_embedded read text
piece_of read start.LetterB text = b_notation text
piece_of read start.LetterH text = h_notation text
piece_of read _ text = Err refusal.Notation

unfoldable pub read_piece : (List ℕ → Read Item) → List ℕ → Read (List ℕ)
read_piece read [] = Err refusal.Notation
read_piece read (b ∷ text) = piece_of read (start_of b) text

-- The pieces from here on, with blanks between them, and the text after the blank after them. The number
-- bounds them as in `members_from`.
unfoldable pub read_pieces : (List ℕ → Read Item) → StringKind → ℕ → List ℕ → Read (List ℕ)
read_pieces read kind zero text = Err refusal.Notation
read_pieces read kind (suc n) text =
    elim (begins_piece kind (first_start text)) [
      | true ↦ (read_piece read text >>= λ x. read_pieces read kind n (skip_blank x.1)
          >>= λ xs. Ok (x.0 ++ xs.0, xs.1))
      | false ↦ Ok ([], text)
    ]

-- whether a string of this kind begins so: the first piece of a text string is a text
abbrev pub begins_string : StringKind → Start → Bool
begins_string Bytes s = begins_piece Bytes s
begins_string Text start.Quote = true
begins_string Text _ = false

-- the content of a string, which is UTF-8 in a text string
abbrev pub checked : StringKind → List ℕ → Result Chunk Error
checked kind content = checked_chunk kind Unknown content

abbrev pub content_of : (List ℕ → Read Item) → StringKind → List ℕ → Bool → Read (List ℕ)
content_of read kind text false = Err refusal.Notation
content_of read kind text true = read_pieces read kind (suc (length text)) text

-- the content of a string of definite length, and the text after the blank after it
abbrev pub read_content : (List ℕ → Read Item) → StringKind → List ℕ → Read (List ℕ)
read_content read kind text = content_of read kind text (begins_string kind (first_start text))

-- a string of definite length
unfoldable pub read_string : (List ℕ → Read Item) → StringKind → List ℕ → Read Chunk
read_string read kind text = read_content read kind text >>= λ x. checked kind x.0 >>= λ c. Ok (c, x.1)

-- one chunk more, of this content
abbrev pub with_chunk : StringKind → List Chunk → List ℕ → Result (List Chunk) Error
with_chunk kind cs content = checked kind content >>= λ c. Ok (cs ++ c ∷ [])

-- a chunk of an indefinite string, with the blanks round it
abbrev pub read_chunk : (List ℕ → Read Item) → StringKind → List ℕ → Read Chunk
read_chunk read kind text = read_string read kind (skip_blank text)

abbrev pub chunks_of : (List ℕ → Read Item) → StringKind → List ℕ → Read Item
chunks_of read kind text = read_members (read_chunk read kind) 41 text
    >>= λ cs. Ok (atom (chunked_string kind cs.0), cs.1)

-- the kind of an indefinite string, by what its first chunk begins with
abbrev pub kind_from : Start → StringKind
kind_from start.Quote = Text
kind_from _ = Bytes

-- an indefinite string after its parenthesis
abbrev pub read_chunks : (List ℕ → Read Item) → List ℕ → Read Item
read_chunks read text = or_refused (after_byte 95 text) >>= λ opened. let first =
    skip_blank opened in chunks_of read (kind_from (first_start first)) first

-- an indefinite string of no chunks, or a string
abbrev pub string_of : (List ℕ → Read Item) → StringKind → List ℕ → Option (List ℕ) → Read Item
string_of read kind text (Some rest) = Ok (atom (chunked_string kind []), rest)
string_of read kind text None = read_string read kind text >>= λ c. Ok (atom (string kind c.0), c.1)

abbrev pub read_string_item : (List ℕ → Read Item) → StringKind → List ℕ → Read Item
read_string_item read kind text = string_of read kind text (after_word (no_chunks kind) text)

-- a string of this kind and content, and what follows it
abbrev pub one_string : StringKind → List ℕ → List ℕ → Read Item
one_string kind content rest = checked kind content >>= λ c. Ok (atom (string kind c), rest)

-- whether a list goes on or closes here, so that a string before it ends
abbrev pub ends_string : List ℕ → Bool
ends_string [] = false
ends_string (b ∷ text) = (b == 44) || (b == 58) || (b == 93) || (b == 125)

-- Simple values and floats

-- the value in the parentheses of a simple value, where it is decimal digits and below 256
abbrev pub simple_value : ℕ → List ℕ → Result ℕ Error
simple_value n digits = if list_all (λ c. nat_lt (digit_value c) 10) digits && nat_lt n 256 then Ok n
    else Err refusal.Notation

abbrev pub read_simple : List ℕ → Read Item
read_simple text = read_number text >>= λ x. simple_value x.0.0 (take (length text - length x.1) text)
    >>= λ n. or_refused (after_byte 41 x.1) >>= λ rest. Ok (atom (simple n), rest)

-- the width of a float of this number of hex digits
abbrev pub float_of : ℕ → Option FloatWidth
float_of count =
    if count == 4 then Some float_width.Sixteen
    else if count == 8 then Some float_width.ThirtyTwo
    else if count == 16 then Some float_width.SixtyFour
    else None

-- a float's hex digits, up to an apostrophe
abbrev pub read_float : List ℕ → Read Item
read_float text =
    or_refused (position (λ b. b == 39) text) >>= λ count. or_refused (float_of count)
    >>= λ w. or_refused (numeral 16 (take count text)) >>= λ bits. Ok (atom (float bits w), drop (count + 1) text)

-- what follows a word, read so, where the text begins with it; and else the other
abbrev pub or_else : Option (List ℕ) → (List ℕ → Read Item) → Read Item → Read Item
or_else None read other = other
or_else (Some rest) read other = read rest

abbrev pub named : ℕ → List ℕ → Read Item
named n text = Ok (atom (simple n), text)

-- a simple value or a float
abbrev pub read_word : List ℕ → Read Item
read_word text =
    or_else (after_word (codes "false") text) (named 20)
    (or_else (after_word (codes "true") text) (named 21)
    (or_else (after_word (codes "null") text) (named 22)
    (or_else (after_word (codes "undefined") text) (named 23)
    (or_else (after_word (codes "simple(") text) read_simple
    (or_else (after_word (codes "float'") text) read_float (Err refusal.Notation))))))

-- Items

-- an item's core, by what it begins with: the text, and what follows its first byte
abbrev pub core_of : (List ℕ → Read Item) → Start → List ℕ → List ℕ → Read Item
core_of read start.Digit text rest = read_integer read text
core_of read start.Minus text rest = read_negative rest
core_of read start.Bracket text rest = read_array read rest
core_of read start.Brace text rest = read_map read rest
core_of read start.Parenthesis text rest = read_chunks read rest
core_of read start.Apostrophe text rest = read_string_item read Bytes text
core_of read start.Angle text rest = read_string_item read Bytes text
core_of read start.LetterB text rest = read_string_item read Bytes text
core_of read start.LetterH text rest = read_string_item read Bytes text
core_of read start.Quote text rest = read_string_item read Text text
core_of read start.Other text rest = read_word text

unfoldable pub read_core : (List ℕ → Read Item) → List ℕ → Read Item
read_core read [] = Err refusal.Notation
read_core read (b ∷ rest) = core_of read (start_of b) (b ∷ rest) rest

-- an item with the blanks round it, with `left` levels left for it and the items in it
unfoldable pub read_item : ℕ → List ℕ → Read Item
read_item zero text = Err refusal.TooDeep
read_item (suc left) text = read_core (read_item left) (skip_blank text) >>= λ i. Ok (i.0, skip_blank i.1)

-- the item that a text is, all of it
abbrev pub whole : Item → List ℕ → Result Item Error
whole i [] = Ok i
whole i (b ∷ rest) = Err refusal.Notation

abbrev pub notation_of : ℕ → List ℕ → Result Item Error
notation_of limit text = read_item limit text >>= λ i. whole i.0 i.1
