-- Which texts of EDN may be written for an item (`IsEdnText`; `IsNotedText`, with notes), and the results of a call
-- that appends such a text (`GaveEdn`).
use Rattle.std.specs.Prelude.{◌≡◌, ℕ, true, false, List, [], ◌∷◌, ◌++◌, length, Option, Some, None, Result, Ok, Err}
use Rattle.cbor_grammar.specs.declared.error.Error.{Error}
use Rattle.cbor_grammar.specs.declared.error.Error.TheVariants as refusal
use Rattle.cbor_grammar.specs.Item.{Item}
use Rattle.cbor_grammar.specs.Answer.{Outcome, spelled, cut, fault}
use Rattle.cbor_grammar.specs.Written.{encoded}
use Rattle.cbor_grammar.specs.Reading.{read_item}
use Rattle.cbor_grammar.specs.WellFormed.{deepest}
use Rattle.cbor_notation_writer.specs.Dialect.{Texts, TextsAt, located}
use Rattle.cbor_notes.specs.declared.note.Note.{Note}
use Rattle.cbor_edn_writer.specs.declared.print.place.EdnPlace.{EdnPlace}
use Rattle.cbor_edn_writer.specs.declared.style.EdnStyle.{EdnStyle}
use Rattle.cbor_edn_writer.specs.Breaks.{Nothing, BreaksApart}
use Rattle.cbor_edn_grammar.specs.Edn.{bytes_of_edn}
use Rattle.cbor_edn_grammar.specs.Reserved.{NoneReserved}
use Rattle.cbor_edn_writer.specs.EdnLeaves.{NotedAt, edn_leaves, layout_of}
use Rattle.cbor_tokens.specs.Hidden.{IsShown}

-- on one line without notes, and over several lines of 80 columns with notes
abbrev pub line_style : EdnStyle
line_style = record { lines = false; notes = false; embedded = false; widths = false; columns = 80 }

abbrev pub pretty_style : EdnStyle
pretty_style = record { lines = true; notes = true; embedded = false; widths = false; columns = 80 }

-- the place of the outermost item of a text in this style, with these notes, at the front of this many bytes
pub record IsOutermost (style : EdnStyle) (notes : List Note) (len : ℕ) (place : EdnPlace) : Type 0 where
  pub level : place.level ≡ 1
  pub layout : place.layout ≡ layout_of style.lines
  pub style_is : place.style ≡ style
  pub tag : place.tag ≡ None
  pub notes_are : place.notes.now ≡ notes
  pub found : place.found ≡ None
  pub end : place.end ≡ len

-- The texts of the item at the front of these bytes, there. Each part is what `edn_leaves` says. If there are notes,
-- what is written of one stands at an item that begins where the note is given for (`NotedAt`).
abbrev pub TextsFrom : List Note → EdnPlace → List ℕ → Item → Texts
TextsFrom [] p bytes i t = TextsAt edn_leaves p i t
TextsFrom (n ∷ ns) p bytes i t = TextsAt (located edn_leaves NotedAt) (p, bytes) i t

-- The text is one that EDN has for the item, where these are a caller's notes on it and on items in it: each part of it
-- is what `edn_leaves` says. What is written of such a note stands at an item that begins at the note's place, in bytes
-- that begin with the outermost item.
-- It is read back as the bytes of the item, all widths included, if no simple value from 24 to 31 is in it. No
-- character in it is hidden. Where it has lines, line feeds are in no quotes and in no comment.
pub record IsNotedText (style : EdnStyle) (notes : List Note) (i : Item) (text : List ℕ) : Type 0 where
  pub place : EdnPlace
  pub bytes : List ℕ
  pub rest : List ℕ
  pub read : read_item deepest bytes ≡ Ok (i, rest)
  pub outermost : IsOutermost style notes (length bytes) place
  pub written : TextsFrom notes place bytes i text
  pub read_back : NoneReserved i → bytes_of_edn text ≡ Some (encoded i)
  pub shown : IsShown style.lines text
  pub breaks : BreaksApart Nothing text

-- the same without notes
abbrev pub IsEdnText : EdnStyle → Item → List ℕ → Type 0
IsEdnText style i text = IsNotedText style [] i text

-- the same, where those bytes are these
abbrev pub IsNotedFrom : List ℕ → EdnStyle → List Note → Item → Texts
IsNotedFrom bytes style notes i text = (noted : IsNotedText style notes i text) × (noted.bytes ≡ bytes)

-- such a text of the item at the front of these bytes was appended to the old text
abbrev pub AppendsNoted : List ℕ → EdnStyle → List Note → Item → List ℕ → List ℕ → Type 0
AppendsNoted bytes style notes i old new =
    (text : List ℕ) × IsNotedFrom bytes style notes i text × (new ≡ old ++ text)

abbrev pub AppendsEdn : List ℕ → EdnStyle → Item → List ℕ → List ℕ → Type 0
AppendsEdn bytes style i old new = AppendsNoted bytes style [] i old new

-- A call that appends the text of the item at the front of these bytes gave this outcome, and for an item it appended a
-- text of it to the old text; or memory ran out.
abbrev pub GaveNoted : List ℕ → EdnStyle → List Note → Result (Option ℕ) Error → List ℕ → List ℕ → Outcome → Type 0
GaveNoted bytes style notes (Ok (Some n)) old new o =
    (i : Item) × (o ≡ spelled i n) × AppendsNoted bytes style notes i old new
GaveNoted bytes style notes (Ok None) old new o = o ≡ cut
GaveNoted bytes style notes (Err refusal.Memory) old new o = Unit {0}
GaveNoted bytes style notes (Err e) old new o = o ≡ fault e

abbrev pub GaveEdn : List ℕ → EdnStyle → Result (Option ℕ) Error → List ℕ → List ℕ → Outcome → Type 0
GaveEdn bytes style result old new o = GaveNoted bytes style [] result old new o
