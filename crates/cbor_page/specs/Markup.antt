-- `IsMarkup`: the HTML of lines of a page is pieces: constants (`mark_text`), text and other data with `&`, `<`, `>`
-- and `"` escaped (`escaped`), and bytes in hex (`spaced`). The texts joined are a given text, and the bytes joined are
-- given bytes.
use Rattle.std.specs.Prelude.{◌≡◌, ◌==◌, ℕ, List, [], ◌∷◌, ◌++◌, if◌then◌else◌, codes, flat_map}
use Rattle.hex.specs.Hex.{encode_lower}
use Rattle.cbor_page.specs.declared.mark.Mark.{Mark}
use Rattle.cbor_page.specs.declared.mark.Mark.TheVariants as mark

-- the constant pieces
abbrev pub mark_text : Mark → List ℕ
mark_text mark.Line = codes "<span class=\"l\">"
mark_text mark.Offset = codes "<a class=\"o\" id=\"x"
mark_text mark.Link = codes "\" href=\"#x"
mark_text mark.Tag = codes "\">"
mark_text mark.Anchor = codes "</a>"
mark_text mark.Bytes = codes "<span class=\"h\">"
mark_text mark.Text = codes "</span><span class=\"t"
mark_text mark.Depth = codes " d"
mark_text mark.Shut = codes "\" data-n=\""
mark_text mark.Head = codes "<b class=\""
mark_text mark.HeadEnd = codes "</b>"
mark_text mark.Content = codes "<i class=\""
mark_text mark.ContentEnd = codes "</i>"
mark_text mark.Blank = codes " "
mark_text mark.Span = codes "<span class=\""
mark_text mark.SpanEnd = codes "</span>"
mark_text mark.Number = codes "n"
mark_text mark.String = codes "s"
mark_text mark.ByteString = codes "b"
mark_text mark.TagNumber = codes "g"
mark_text mark.Simple = codes "v"
mark_text mark.Container = codes "c"
mark_text mark.Note = codes "m"
mark_text mark.Wrong = codes "e"
mark_text mark.Key = codes " k"
mark_text mark.Start = codes "\" data-s=\""
mark_text mark.End = codes "\" data-e=\""
mark_text mark.Step = codes "\" data-k=\""
mark_text mark.Fold = codes "<details open><summary>"
mark_text mark.FoldLine = codes "</summary>"
mark_text mark.FoldEnd = codes "</details>"
mark_text mark.Fault = codes "<p class=\"f"
mark_text mark.FaultEnd = codes "</p>"

-- a byte of data: `&`, `<`, `>` and `"` by their names, any other as it is
abbrev pub escaped_byte : ℕ → List ℕ
escaped_byte c =
    if c == 38 then codes "&amp;"
    else if c == 60 then codes "&lt;"
    else if c == 62 then codes "&gt;"
    else if c == 34 then codes "&quot;"
    else c ∷ []

-- data, escaped
abbrev pub escaped : List ℕ → List ℕ
escaped text = flat_map escaped_byte text

-- a blank, and the digits of a byte
abbrev pub next_digits : ℕ → List ℕ
next_digits byte = 32 ∷ encode_lower (byte ∷ [])

-- the digits of bytes, with a blank between two
abbrev pub spaced : List ℕ → List ℕ
spaced [] = []
spaced (first ∷ rest) = encode_lower (first ∷ []) ++ flat_map next_digits rest

-- a piece of what is written
pub data Piece : Type 0 where
  -- a constant
  fixed : Mark → Piece
  -- data of an attribute or of a message
  other : List ℕ → Piece
  -- text of the notation
  notation : List ℕ → Piece
  -- bytes of the items
  encoding : List ℕ → Piece

-- what a piece is written as
abbrev pub written_as : Piece → List ℕ
written_as (fixed m) = mark_text m
written_as (other d) = escaped d
written_as (notation d) = escaped d
written_as (encoding d) = spaced d

-- the text that it shows, and the bytes
abbrev pub text_in : Piece → List ℕ
text_in (notation d) = d
text_in _ = []

abbrev pub bytes_in : Piece → List ℕ
bytes_in (encoding d) = d
bytes_in _ = []

-- The output is pieces, one after the other; their texts joined are this text, and their bytes joined these bytes.
abbrev pub IsMarkup : List ℕ → List ℕ → List ℕ → Type 0
IsMarkup text bytes output = (pieces : List Piece) × (flat_map text_in pieces ≡ text)
    × (flat_map bytes_in pieces ≡ bytes) × (flat_map written_as pieces ≡ output)
