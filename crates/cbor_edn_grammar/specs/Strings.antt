-- Strings in EDN: their pieces, the `+` between pieces, and the width that is stated after the last piece.
use Rattle.std.specs.Prelude.{ℕ, List, [], ◌∷◌, length, codes, Option, Some, None, Bool, true, false}
use Rattle.std.specs.Prelude.{◌==◌, ◌&&◌, ◌||◌, if◌then◌else◌, is_some, not, bytes_eq}
use Rattle.std.specs.Str.{is_utf8}
use Rattle.cbor_grammar.specs.declared.width.IntegerWidth.{IntegerWidth}
use Rattle.cbor_grammar.specs.declared.width.IntegerWidth.TheVariants.{Unknown}
use Rattle.cbor_grammar.specs.declared.strings.StringKind.{StringKind}
use Rattle.cbor_grammar.specs.declared.strings.StringKind.TheVariants.{Bytes, Text}
use Rattle.cbor_grammar.specs.Item.{Item, Chunk, atom, string, chunked_string}
use Rattle.cbor_edn_grammar.specs.declared.opening.Base.TheVariants.{Hex, Base64, Base32, Base32Hex}
use Rattle.cbor_edn_grammar.specs.declared.opening.Opening.{Opening}
use Rattle.cbor_edn_grammar.specs.declared.opening.Opening.TheVariants.{Quote, Apostrophe, Angles, Digits}
use Rattle.cbor_edn_grammar.specs.Reading.{Read, ◌>>=◌, after_bytes, repeated}
use Rattle.cbor_edn_grammar.specs.Blank.{skip_blank}
use Rattle.cbor_edn_grammar.specs.Word.{is_digit, word_of, after_word, width_of}
use Rattle.cbor_edn_grammar.specs.Number.{fits}
use Rattle.cbor_edn_grammar.specs.Quoted.{quoted}
use Rattle.cbor_edn_grammar.specs.Digits.{read_digits}

-- this opening where its bytes come first, or else what comes first otherwise
abbrev pub opens : Opening → Option (List ℕ) → Read Opening → Read Opening
opens opening (Some rest) other = Some (opening, rest)
opens opening None other = other

-- the opening of a piece at the front, and the text after it
unfoldable pub opening_of : List ℕ → Read Opening
opening_of text =
    opens Quote (after_bytes (codes "\"") text)
    (opens Apostrophe (after_bytes (codes "'") text)
    (opens Angles (after_bytes (codes "<<") text)
    (opens (Digits Hex) (after_bytes (codes "h'") text)
    (opens (Digits Base64) (after_bytes (codes "b64'") text)
    (opens (Digits Base32) (after_bytes (codes "b32'") text)
    (opens (Digits Base32Hex) (after_bytes (codes "h32'") text) None))))))

-- whether an opening may begin with this byte: `"`, `'`, `<`, `b` or `h`
abbrev pub may_open : ℕ → Bool
may_open b = (b == 34) || (b == 39) || (b == 60) || (b == 98) || (b == 104)

abbrev pub begins_string : List ℕ → Bool
begins_string text = is_some (opening_of text)

-- a string is a text if its first piece is one
abbrev pub kind_of : Opening → StringKind
kind_of Quote = Text
kind_of opening = Bytes

-- the bytes of a piece after its opening, where the items between `<<` and `>>` are read so
abbrev pub piece_of : (List ℕ → Read (List ℕ)) → Opening → List ℕ → Read (List ℕ)
piece_of embedded Quote text = quoted 34 text
piece_of embedded Apostrophe text = quoted 39 text
piece_of embedded Angles text = embedded text
piece_of embedded (Digits base) text = read_digits base text

-- a `+` right before a digit or a point is the sign of a number
abbrev pub is_sign_of : List ℕ → Bool
is_sign_of [] = false
is_sign_of (b ∷ text) = is_digit b || (b == 46)

-- whether a `+` joins the next piece, and where the text goes on then
abbrev pub joins : List ℕ → List ℕ → Bool × List ℕ
joins text [] = (false, text)
joins text (b ∷ rest) = if (b == 43) && not (is_sign_of rest) then (true, skip_blank rest) else (false, text)

abbrev pub joined : List ℕ → Bool × List ℕ
joined text = joins text (skip_blank text)

-- a piece, and whether another is joined to it
abbrev pub piece_turn : (List ℕ → Read (List ℕ)) → List ℕ → Option (List ℕ × Bool × List ℕ)
piece_turn embedded text =
    opening_of text >>= λ o. piece_of embedded o.0 o.1 >>= λ p. Some (p.0, (joined p.1).0, (joined p.1).1)

-- the width that a word states; none is stated by `_` alone
abbrev pub stated_by : List ℕ → Option (Option IntegerWidth)
stated_by word = if bytes_eq word (codes "_") then Some None else (width_of word >>= λ width. Some (Some width))

-- the width right after a string
abbrev pub width_after : List ℕ → Read (Option IntegerWidth)
width_after [] = Some (Some Unknown, [])
width_after (b ∷ text) =
    if b == 95 then (stated_by (word_of (b ∷ text)) >>= λ width. Some (width, after_word (b ∷ text)))
    else Some (Some Unknown, b ∷ text)

-- the kind of a string, its bytes and the width of its length, which is none after a `_` alone
unfoldable pub read_content : (List ℕ → Read (List ℕ)) → List ℕ → Read (StringKind × List ℕ × Option IntegerWidth)
read_content embedded text =
    opening_of text >>= λ o. repeated (piece_turn embedded) text >>= λ p. width_after p.1
    >>= λ w. Some ((kind_of o.0, p.0, w.0), w.1)

abbrev pub may_hold : StringKind → List ℕ → Bool
may_hold Bytes bytes = true
may_hold Text bytes = is_utf8 bytes

-- a string of definite length: its length fits the width, and a text is UTF-8
abbrev pub chunk_of : StringKind → List ℕ → IntegerWidth → Option Chunk
chunk_of kind bytes width = if fits width (length bytes) && may_hold kind bytes
    then Some (record { bytes = bytes; width = width }) else None

abbrev pub no_chunks : StringKind → List ℕ → Option Item
no_chunks kind [] = Some (atom (chunked_string kind []))
no_chunks kind (b ∷ bytes) = None

-- the item that a string is; an empty one before a `_` is of indefinite length and has no chunks
abbrev pub string_item : StringKind → List ℕ → Option IntegerWidth → Option Item
string_item kind bytes (Some width) = chunk_of kind bytes width >>= λ chunk. Some (atom (string kind chunk))
string_item kind bytes None = no_chunks kind bytes

abbrev pub read_string : (List ℕ → Read (List ℕ)) → List ℕ → Read Item
read_string embedded text =
    read_content embedded text >>= λ c. string_item c.0.0 c.0.1 c.0.2 >>= λ i. Some (i, c.1)
