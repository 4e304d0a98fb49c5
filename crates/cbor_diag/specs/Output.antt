-- `IsOutput`: the result of converting an input from one form to another. It is the item of the input in the other
-- form, or the reason why the input is not an item. `Reads`, `Refuses` and `output_of` define these for each form.
use Rattle.std.specs.Prelude.{◌≡◌, ℕ, List, [], ◌∷◌, ◌++◌, IsUtf8, Result, Ok, Err, ◌⊎◌}
use Rattle.cbor_grammar.specs.declared.error.Error.{Error}
use Rattle.cbor_grammar.specs.declared.error.Error.TheVariants as refusal
use Rattle.cbor_grammar.specs.Item.{Item}
use Rattle.cbor_grammar.specs.Facts.{IsItem, IsNoItem, diag_of, pretty_of}
use Rattle.cbor_grammar.specs.HexText.{IsHexOf, IsHexRefused}
use Rattle.cbor_grammar.specs.Notation.{IsNotation}
use Rattle.cbor_grammar.specs.NotationRefused.{IsNoNotation}
use Rattle.cbor_dump.specs.Dump.{dump}
use Rattle.cbor_grammar.specs.Written.{encoded}
use Rattle.cbor_diag.specs.declared.conversion.form.Source.{Source}
use Rattle.cbor_diag.specs.declared.conversion.form.Source.TheVariants as source
use Rattle.cbor_diag.specs.declared.conversion.form.To.{To}
use Rattle.cbor_diag.specs.declared.conversion.form.To.TheVariants as target

-- the input, all of it, is this item in that form
abbrev pub Reads : Source → List ℕ → Item → Type 0
Reads source.Bytes input i = IsItem input i
Reads source.Hex input i = IsUtf8 input × IsHexOf input i
Reads source.Diag input i = IsUtf8 input × IsNotation input i

-- why the input is not an item in that form
abbrev pub Refuses : Source → List ℕ → Error → Type 0
Refuses source.Bytes input e = IsNoItem input e
Refuses source.Hex input e =
    (¬ IsUtf8 input × (e ≡ refusal.Utf8)) ⊎ (IsUtf8 input × IsHexRefused input e)
Refuses source.Diag input e =
    (¬ IsUtf8 input × (e ≡ refusal.Utf8)) ⊎ (IsUtf8 input × IsNoNotation input e)

-- what is written of an item in that form
abbrev pub output_of : To → Item → List ℕ
output_of target.Bytes i = encoded i
output_of target.Hex i = dump i
output_of target.Diag i = diag_of i ++ 10 ∷ []
output_of target.Pretty i = pretty_of i ++ 10 ∷ []

-- the output for the input: the item that it is, in the other form; or why it is not an item
abbrev pub IsOutput : Source → To → List ℕ → Result (List ℕ) Error → Type 0
IsOutput from to input (Ok output) = (i : Item) × Reads from input i × (output ≡ output_of to i)
IsOutput from to input (Err e) = Refuses from input e
