-- Why C gets no output for an input: it is not an item in its form, or the item cannot be written as JSON
-- (`IsNoOutput`). `IsTold`: the number of the error, the place in the bytes of the item, and the place of the other key
-- or the kind of loss.
use Rattle.std.specs.Prelude.{◌≡◌, ◌≢◌, ℕ, List, Result, Ok, IfErr, IsUtf8}
use Rattle.hex.specs.Hex.{decode_of}
use Rattle.cbor_tokens.specs.Uncommented.{uncommented}
use Rattle.cbor_grammar.specs.declared.error.Error.TheVariants as refusal
use Rattle.cbor_grammar.specs.Facts.{IsNoItem}
use Rattle.cbor_grammar.specs.Item.{Item}
use Rattle.cbor_grammar.specs.Refusals.{number_of}
use Rattle.cbor_grammar.specs.Written.{encoded}
use Rattle.cbor_diag.specs.declared.conversion.form.Source.TheVariants as source
use Rattle.cbor_diag.specs.declared.conversion.form.To.TheVariants as target
use Rattle.cbor_diag.specs.Output.{Reads}
use Rattle.cbor_json.specs.declared.error.JsonError.{JsonError}
use Rattle.cbor_json.specs.declared.error.JsonError.TheVariants.{Cbor, NotKept, SameKeys}
use Rattle.cbor_json.specs.declared.error.LossKind.{LossKind}
use Rattle.cbor_json.specs.declared.error.LossKind.TheVariants as loss
use Rattle.cbor_json.specs.Written.{IsNoJson, IsErrorOf}
use Rattle.cbor_diag_c.specs.declared.form.Form.{Form}
use Rattle.cbor_diag_c.specs.declared.form.Form.TheVariants as form
use Rattle.cbor_diag_c.specs.declared.form.Text.{Text}
use Rattle.cbor_diag_c.specs.declared.form.Text.TheVariants as text
use Rattle.cbor_diag_c.specs.Forms.{IsEdn, IsRefusedIn, json_style}
use Rattle.cbor_diag_c.specs.Answers.{same_keys, not_kept}
use Rattle.cbor_diag_c.specs.Places.{no_place}

-- a fact of the error, out of memory aside
abbrev pub RefusedAs : {X : Type 0} → Result X JsonError → (JsonError → Type 0) → Type 0
RefusedAs result Means = IfErr result (λ e. e ≢ Cbor refusal.Memory → Means e)

-- why the bytes have no text in this form: they are no item, or JSON does not have it
abbrev pub IsNoText : Text → List ℕ → JsonError → Type 0
IsNoText t b (Cbor e) = IsNoItem b e
IsNoText (text.Json strict) b e = IsNoJson (json_style strict) b e
IsNoText (text.Edn pretty) b e = ⊥
IsNoText text.Html b e = ⊥

-- the only errors that an item has
abbrev pub IsTextErrorOf : Text → Item → JsonError → Type 0
IsTextErrorOf (text.Json strict) i e = IsErrorOf (json_style strict) i e
IsTextErrorOf (text.Edn pretty) i e = e ≡ Cbor refusal.Memory
IsTextErrorOf text.Html i e = e ≡ Cbor refusal.Memory

-- The bytes of the item that the input is: those that it has, or those that the item is encoded to.
abbrev pub IsBytesOf : Form → List ℕ → List ℕ → Type 0
IsBytesOf (form.Plain target.Bytes) input b = b ≡ input
IsBytesOf (form.Plain target.Hex) input b = IsUtf8 input × (decode_of (uncommented input) ≡ Ok b)
IsBytesOf (form.Plain target.Diag) input b = (i : Item) × Reads source.Diag input i × (b ≡ encoded i)
IsBytesOf (form.Plain target.Pretty) input b = (i : Item) × Reads source.Diag input i × (b ≡ encoded i)
IsBytesOf (form.Text t) input b = (i : Item) × IsEdn input i × (b ≡ encoded i)

-- why there is no output for the input: it is no item in its form, or JSON does not have that of its bytes
abbrev pub IsNoOutput : Form → Form → List ℕ → JsonError → Type 0
IsNoOutput from to input (Cbor e) = IsRefusedIn from input e
IsNoOutput from (form.Text (text.Json strict)) input e =
    (b : List ℕ) × IsBytesOf from input b × IsNoJson (json_style strict) b e
IsNoOutput from to input e = ⊥

-- ---- as numbers

abbrev pub error_number : JsonError → ℕ
error_number (Cbor e) = number_of e
error_number (SameKeys clash) = same_keys
error_number (NotKept lost) = not_kept

abbrev pub loss_number : LossKind → ℕ
loss_number loss.Tag = 1
loss_number loss.NotFinite = 2
loss_number loss.Simple = 3
loss_number loss.Bytes = 4
loss_number loss.Key = 5

-- what is told of an error: its number, the place in the bytes of the item, and the other key or the kind of loss
abbrev pub IsTold : JsonError → ℕ → ℕ → ℕ → Type 0
IsTold (Cbor e) n place detail = (n ≡ number_of e) × (place ≡ no_place) × (detail ≡ no_place)
IsTold (SameKeys clash) n place detail = (n ≡ same_keys) × (place ≡ clash.second) × (detail ≡ clash.first)
IsTold (NotKept lost) n place detail = (n ≡ not_kept) × (place ≡ lost.place) × (detail ≡ loss_number lost.kind)
