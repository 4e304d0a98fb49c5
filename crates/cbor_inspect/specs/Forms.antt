-- `IsForm`: the output of a viewer for one whole item: EDN over several lines (`Pretty`) or on one (`Diag`), a dump
-- (`Hex`), hex digits or bytes. Only `Pretty` has notes.
use Rattle.std.specs.Prelude.{◌≡◌, ◌&&◌, ℕ, Bool, true, false, List, [], ◌∷◌, ◌++◌, Option, Some, None}
use Rattle.hex.specs.Hex.{encode_lower}
use Rattle.cbor_grammar.specs.Item.{Item}
use Rattle.cbor_grammar.specs.Facts.{IsItem}
use Rattle.cbor_dump.specs.Dump.{dump}
use Rattle.cbor_edn_writer.specs.declared.style.EdnStyle.{EdnStyle}
use Rattle.cbor_notes.specs.declared.note.Note.{Note}
use Rattle.cbor_edn_writer.specs.Written.{IsNotedText}
use Rattle.cbor_inspect.specs.declared.form.Form.{Form}
use Rattle.cbor_inspect.specs.declared.form.Form.TheVariants as form
use Rattle.cbor_inspect.specs.declared.form.Style.{Style}
use Rattle.cbor_inspect.specs.declared.items.Show.{Show}
use Rattle.cbor_inspect.specs.declared.naming.Naming.{Naming}

-- only pretty text has lines and notes
abbrev pub is_pretty : Form → Bool
is_pretty form.Pretty = true
is_pretty other = false

-- how EDN is written in that style
abbrev pub edn_style : Style → EdnStyle
edn_style style = record {
  lines = is_pretty style.form;
  notes = is_pretty style.form && style.notes;
  embedded = style.embedded;
  widths = style.widths;
  columns = style.columns;
}

-- the notes beside the item and those in it: none without tables of names, and none in a style without notes
abbrev pub AreBeside : Option Naming → EdnStyle → List Note → Type 0
AreBeside None style notes = notes ≡ []
AreBeside (Some naming) style notes = style.notes ≡ false → notes ≡ []

-- the item in EDN with such notes, and a line feed; it is read back whatever the notes are
abbrev pub IsLineOf : Option Naming → EdnStyle → Item → List ℕ → Type 0
IsLineOf named style i output = (notes : List Note) × AreBeside named style notes
    × (text : List ℕ) × (output ≡ text ++ 10 ∷ []) × IsNotedText style notes i text

-- The item in that form, where it is EDN in that style. Bytes and digits are those of an encoding of the item.
abbrev pub IsFormOf : Form → Option Naming → EdnStyle → Item → List ℕ → Type 0
IsFormOf form.Pretty named style i output = IsLineOf named style i output
IsFormOf form.Diag named style i output = IsLineOf named style i output
IsFormOf form.Hex named style i output = output ≡ dump i
IsFormOf form.Digits named style i output =
    (bytes : List ℕ) × IsItem bytes i × (output ≡ encode_lower bytes ++ 10 ∷ [])
IsFormOf form.Bytes named style i output = IsItem output i

-- the item as it is to be shown
abbrev pub IsForm : Show → Item → List ℕ → Type 0
IsForm show i output = IsFormOf show.style.form show.names (edn_style show.style) i output

-- the forms that are EDN
abbrev pub IsEdn : Form → Type 0
IsEdn form.Pretty = Unit {0}
IsEdn form.Diag = Unit {0}
IsEdn other = ⊥
