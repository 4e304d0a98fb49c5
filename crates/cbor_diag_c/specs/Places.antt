-- The place of the error in an input that is not an item, for each form (`IsPlace`). A place is the number of bytes
-- before it, and `no_place` stands for none. `IsFaultIn`: the number of the error and its place, for the C call
-- `cbor_diag_fault`.
use Rattle.std.specs.Prelude.{◌≡◌, ◌⊎◌, ℕ, ◌+◌, ◌-◌, ◌*◌, ◌^◌, ◌<◌, ◌≤◌, List, length, Ok, IsUtf8}
use Rattle.std.specs.Str.{IsValidUpTo}
use Rattle.hex.specs.Hex.{decode_of}
use Rattle.cbor_tokens.specs.Uncommented.{uncommented}
use Rattle.cbor_grammar.specs.declared.error.Error.{Error}
use Rattle.cbor_grammar.specs.declared.error.Error.TheVariants as refusal
use Rattle.cbor_grammar.specs.Item.{Item}
use Rattle.cbor_grammar.specs.Facts.{BeginsWithItem, IsCut}
use Rattle.cbor_places.specs.Fault.{ShowsFirst}
use Rattle.cbor_grammar.specs.HexText.{IsKeptByte, IsHexFault}
use Rattle.cbor_grammar.specs.Refusals.{number_of}
use Rattle.cbor_diag.specs.declared.conversion.form.Source.{Source}
use Rattle.cbor_diag.specs.declared.conversion.form.Source.TheVariants as source
use Rattle.cbor_diag_c.specs.declared.form.Form.{Form}
use Rattle.cbor_diag_c.specs.declared.form.Form.TheVariants as form
use Rattle.cbor_diag_c.specs.Forms.{form_number, read_as, IsNoForm, ReadsIn, IsRefusedIn}
use Rattle.cbor_diag_c.specs.Answers.{no_form}

-- what is told where there is no place
abbrev pub no_place : ℕ
no_place = 2 ^ 64 - 1

-- In bytes: their end where they are cut, the end of the item where more follow, and otherwise the last of the first
-- bytes that have the error, of which fewer are cut.
abbrev pub IsBytesPlace : List ℕ → Error → ℕ → Type 0
IsBytesPlace b e place =
    ((e ≡ refusal.CutShort) × IsCut b × (place ≡ length b))
    ⊎ ((e ≡ refusal.Remaining) × (i : Item) × BeginsWithItem b i place × (place < length b))
    ⊎ ShowsFirst b e (place + 1)

-- the first digit of byte n in hex, or the end of the text if it has no such byte
abbrev pub IsDigitsPlace : List ℕ → ℕ → ℕ → Type 0
IsDigitsPlace text n place =
    IsKeptByte text (2 * n) place ⊎ ((length (uncommented text) < 2 * n + 2) × (place ≡ length text))

-- In hex: where the digits are wrong, or the digits of the place in their bytes.
abbrev pub IsHexPlace : List ℕ → Error → ℕ → Type 0
IsHexPlace text e place =
    IsHexFault text e place
    ⊎ ((bytes : List ℕ) × (n : ℕ) × (decode_of (uncommented text) ≡ Ok bytes)
    × IsBytesPlace bytes e n × IsDigitsPlace text n place)

-- In notation and EDN: after the longest front that is UTF-8, or in the text.
abbrev pub IsTextPlace : List ℕ → ℕ → Type 0
IsTextPlace input place =
    (¬ IsUtf8 input × IsValidUpTo input place) ⊎ (IsUtf8 input × (place ≤ length input))

-- In bytes, hex or notation. Hex that is not UTF-8 is wrong after the longest front that is.
abbrev pub IsPlainPlace : Source → List ℕ → Error → ℕ → Type 0
IsPlainPlace source.Bytes input e place = IsBytesPlace input e place
IsPlainPlace source.Hex input e place =
    (¬ IsUtf8 input × IsValidUpTo input place) ⊎ (IsUtf8 input × IsHexPlace input e place)
IsPlainPlace source.Diag input e place = IsTextPlace input place

abbrev pub IsPlace : Form → List ℕ → Error → ℕ → Type 0
IsPlace (form.Plain f) input e place = IsPlainPlace (read_as f) input e place
IsPlace (form.Text t) input e place = IsTextPlace input place

-- the input is an item in the form of this number
abbrev pub IsItemIn : ℕ → List ℕ → Type 0
IsItemIn from input = (f : Form) × (i : Item) × (from ≡ form_number f) × ReadsIn f input i

-- why it is none, by the error's number, and the place; out of memory aside
abbrev pub IsFaultIn : ℕ → List ℕ → ℕ → ℕ → Type 0
IsFaultIn from input n place =
    ((f : Form) × (e : Error) × (from ≡ form_number f) × (n ≡ number_of e)
    × IsRefusedIn f input e × IsPlace f input e place)
    ⊎ ((n ≡ no_form) × IsNoForm from)
