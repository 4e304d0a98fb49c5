-- The result of the C call `cbor_diag_fault_text` (`IsWords`): why an input is not an item in a form, in words. For EDN
-- in UTF-8 they say what was expected, and otherwise they are the text of the error. There are none for an item.
use Rattle.std.specs.Prelude.{◌≡◌, ◌⊎◌, ℕ, List, [], codes, IsUtf8, None}
use Rattle.cbor_grammar.specs.declared.error.Error.{Error}
use Rattle.cbor_grammar.specs.declared.error.Error.TheVariants as refusal
use Rattle.cbor_grammar.specs.Item.{Item}
use Rattle.cbor_grammar.specs.Refusals.{text_of}
use Rattle.cbor_edn_grammar.specs.declared.error.Expected.{Expected}
use Rattle.cbor_edn_grammar.specs.Edn.{item_of_edn}
use Rattle.cbor_edn_grammar.specs.Expectations as edn
use Rattle.cbor_diag_c.specs.declared.form.Form.{Form}
use Rattle.cbor_diag_c.specs.declared.form.Form.TheVariants as form
use Rattle.cbor_diag_c.specs.Forms.{form_number, IsEdn, IsNoForm, ReadsIn, IsRefusedIn}

-- Of EDN: nothing for an item, and otherwise what was expected, whatever it is.
abbrev pub IsEdnWords : List ℕ → List ℕ → Type 0
IsEdnWords input words =
    ((i : Item) × IsEdn input i × (words ≡ []))
    ⊎ (¬ IsUtf8 input × (words ≡ text_of refusal.Utf8))
    ⊎ ((expected : Expected) × IsUtf8 input × (item_of_edn input ≡ None) × (words ≡ edn.text_of expected))

-- nothing for an item, and otherwise the text of an error that is true of the input
abbrev pub IsErrorText : Form → List ℕ → List ℕ → Type 0
IsErrorText from input words =
    ((i : Item) × ReadsIn from input i × (words ≡ []))
    ⊎ ((e : Error) × IsRefusedIn from input e × (words ≡ text_of e))

-- the words for an input in a form, out of memory aside
abbrev pub IsWordsIn : Form → List ℕ → List ℕ → Type 0
IsWordsIn (form.Plain f) input words = IsErrorText (form.Plain f) input words
IsWordsIn (form.Text t) input words = IsEdnWords input words

-- such words, or those of out of memory
abbrev pub IsOrMemory : (List ℕ → Type 0) → List ℕ → Type 0
IsOrMemory Fact words = Fact words ⊎ (words ≡ text_of refusal.Memory)

-- the words for an input in the form of this number
abbrev pub IsWords : ℕ → List ℕ → List ℕ → Type 0
IsWords from input words =
    ((f : Form) × (from ≡ form_number f) × IsOrMemory (IsWordsIn f input) words)
    ⊎ (IsNoForm from × (words ≡ codes "no such form"))
