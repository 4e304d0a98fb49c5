-- The forms of inputs and outputs for C, and their numbers (`form_number`). `ReadsIn` and `IsWrittenIn`: an input or an
-- output is an item in a form. `IsConversion`: an output is the item of an input, by the numbers of both forms.
use Rattle.std.specs.Prelude.{◌≡◌, ◌⊎◌, ℕ, ◌<◌, Bool, true, false, List, [], ◌∷◌, ◌++◌, Option, Some, None, Err, IsUtf8}
use Rattle.cbor_grammar.specs.declared.error.Error.{Error}
use Rattle.cbor_grammar.specs.declared.error.Error.TheVariants as refusal
use Rattle.cbor_grammar.specs.Item.{Item}
use Rattle.cbor_grammar.specs.Facts.{IsItem}
use Rattle.cbor_grammar.specs.Written.{resolve}
use Rattle.cbor_diag.specs.View.{view}
use Rattle.cbor_diag.specs.declared.conversion.form.Source.{Source}
use Rattle.cbor_diag.specs.declared.conversion.form.Source.TheVariants as source
use Rattle.cbor_diag.specs.declared.conversion.form.To.{To}
use Rattle.cbor_diag.specs.declared.conversion.form.To.TheVariants as target
use Rattle.cbor_diag.specs.Output.{Reads, Refuses, output_of}
use Rattle.cbor_edn_writer.specs.declared.style.EdnStyle.{EdnStyle}
use Rattle.cbor_edn_grammar.specs.declared.error.EdnError.{EdnError}
use Rattle.cbor_edn_grammar.specs.Edn.{item_of_edn, Answers}
use Rattle.cbor_edn_writer.specs.Written.{IsEdnText, line_style, pretty_style}
use Rattle.cbor_json.specs.declared.style.JsonStyle.{JsonStyle}
use Rattle.cbor_json.specs.declared.style.TheConstants.JsonStyle.{PLAIN, STRICT}
use Rattle.cbor_json.specs.Written.{IsJsonText}
use Rattle.cbor_page.specs.Markup.{IsMarkup}
use Rattle.cbor_diag_c.specs.declared.form.Form.{Form}
use Rattle.cbor_diag_c.specs.declared.form.Form.TheVariants as form
use Rattle.cbor_diag_c.specs.declared.form.Text.{Text}
use Rattle.cbor_diag_c.specs.declared.form.Text.TheVariants as text

abbrev pub form_number : Form → ℕ
form_number (form.Plain target.Bytes) = 0
form_number (form.Plain target.Hex) = 1
form_number (form.Plain target.Diag) = 2
form_number (form.Plain target.Pretty) = 3
form_number (form.Text (text.Edn false)) = 4
form_number (form.Text (text.Edn true)) = 5
form_number (form.Text (text.Json false)) = 6
form_number (form.Text (text.Json true)) = 7
form_number (form.Text text.Html) = 8

-- no form has this number
abbrev pub IsNoForm : ℕ → Type 0
IsNoForm n = 8 < n

-- in which form an input is read: notation over several lines is read as notation on one is
abbrev pub read_as : To → Source
read_as target.Bytes = source.Bytes
read_as target.Hex = source.Hex
read_as target.Diag = source.Diag
read_as target.Pretty = source.Diag

-- the input, all of it, is this item in EDN; however it is laid out
abbrev pub IsEdn : List ℕ → Item → Type 0
IsEdn input i = IsUtf8 input × (item_of_edn input ≡ Some i)

-- why the input is no item in EDN
abbrev pub IsNoEdn : List ℕ → Error → Type 0
IsNoEdn input e =
    (¬ IsUtf8 input × (e ≡ refusal.Utf8)) ⊎ (IsUtf8 input × (item_of_edn input ≡ None) × (e ≡ refusal.Notation))

-- The text is an item in EDN, or the reader answers with this error.
abbrev pub IsEdnError : List ℕ → Option EdnError → Type 0
IsEdnError text None = (i : Item) × (item_of_edn text ≡ Some i)
IsEdnError text (Some e) = Answers view text (item_of_edn text) (Err e)

-- the input, all of it, is this item in that form; JSON is read as EDN, of which it is a part
abbrev pub ReadsIn : Form → List ℕ → Item → Type 0
ReadsIn (form.Plain f) input i = Reads (read_as f) input i
ReadsIn (form.Text t) input i = IsEdn input i

-- why the input is not an item in that form
abbrev pub IsRefusedIn : Form → List ℕ → Error → Type 0
IsRefusedIn (form.Plain f) input e = Refuses (read_as f) input e
IsRefusedIn (form.Text t) input e = IsNoEdn input e

-- how EDN is written: on one line; or over several where it is long, with notes
abbrev pub edn_style : Bool → EdnStyle
edn_style false = line_style
edn_style true = pretty_style

-- how JSON is written: what it does not keep is lost, or is an error
abbrev pub json_style : Bool → JsonStyle
json_style false = PLAIN
json_style true = STRICT

-- the item in EDN, and a line feed
abbrev pub IsEdnLine : Bool → Item → List ℕ → Type 0
IsEdnLine pretty i line = (core : List ℕ) × IsEdnText (edn_style pretty) i core × (line ≡ core ++ 10 ∷ [])

-- the item as JSON, and a line feed
abbrev pub IsJsonLine : Bool → Item → List ℕ → Type 0
IsJsonLine strict i line = (core : List ℕ) × IsJsonText (json_style strict) i core × (line ≡ core ++ 10 ∷ [])

-- The lines of a page: constants and escaped data. Their texts joined are the item in EDN over several lines, and their
-- bytes joined are bytes of it.
abbrev pub IsHtmlLines : Item → List ℕ → Type 0
IsHtmlLines i lines = (b line : List ℕ) × IsItem b i × IsEdnLine true i line × IsMarkup line b lines

abbrev pub IsTextLine : Text → Item → List ℕ → Type 0
IsTextLine (text.Edn pretty) i line = IsEdnLine pretty i line
IsTextLine (text.Json strict) i line = IsJsonLine strict i line
IsTextLine text.Html i line = IsHtmlLines i line

-- what is written of an item in that form; in EDN with the widths that its bytes have
abbrev pub IsWrittenIn : Form → Item → List ℕ → Type 0
IsWrittenIn (form.Plain t) i output = output ≡ output_of t i
IsWrittenIn (form.Text t) i output = IsTextLine t (resolve i) output

-- the output for the input: the item that it is, in the other form
abbrev pub IsOutputIn : Form → Form → List ℕ → List ℕ → Type 0
IsOutputIn from to input output = (i : Item) × ReadsIn from input i × IsWrittenIn to i output

-- the output for the input, between the forms with these numbers
abbrev pub IsConversion : ℕ → ℕ → List ℕ → List ℕ → Type 0
IsConversion from to input output =
    (f t : Form) × (from ≡ form_number f) × (to ≡ form_number t) × IsOutputIn f t input output
