-- The output of the filter `cbor_view` for a sequence of items (RFC 8742): for some items at the front
-- (`IsOutputOfFirst`), for all items (`IsOutputOfAll`), or for the items before the first truncated or malformed one
-- (`IsOutputBefore`).
use Rattle.std.specs.Prelude.{◌≡◌, ◌≢◌, ◌⊎◌, ℕ, List, [], ◌∷◌, ◌++◌}
use Rattle.std.specs.List.{flat_map}
use Rattle.cbor_grammar.specs.declared.error.Error.{Error}
use Rattle.cbor_grammar.specs.declared.error.Error.TheVariants as refusal
use Rattle.cbor_diag.specs.Item.{Item}
use Rattle.cbor_diag.specs.Facts.{IsItem, IsCut, HasFault}
use Rattle.cbor_diag.specs.declared.conversion.form.To.{To}
use Rattle.cbor_diag.specs.Output.{output_of}

-- the input is these items, each after the one before it, and then the rest
abbrev pub ItemsThen : List ℕ → List Item → List ℕ → Type 0
ItemsThen input [] rest = input ≡ rest
ItemsThen input (i ∷ is) rest =
    (front after : List ℕ) × (input ≡ front ++ after) × IsItem front i × ItemsThen after is rest

-- The output is what is written of some items at the front of the input, each in its form and all in
-- order, and this rest follows these items.
pub record IsOutputOfFirst (to : To) (input output rest : List ℕ) : Type 0 where
  pub items : List Item
  pub input_is : ItemsThen input items rest
  pub output_is : output ≡ flat_map (output_of to) items

-- The output is what is written of all items of the input, and nothing follows them.
abbrev pub IsOutputOfAll : To → List ℕ → List ℕ → Type 0
IsOutputOfAll to input output = IsOutputOfFirst to input output []

-- why no item begins what follows the items: it is cut, and not empty, or it has this fault
abbrev pub EndsTheItems : List ℕ → Error → Type 0
EndsTheItems rest e = ((e ≡ refusal.CutShort) × (rest ≢ []) × IsCut rest) ⊎ HasFault rest e

-- The output is what is written of the items of the input as far as there are any, and this is why none
-- begins what follows them.
abbrev pub IsOutputBefore : To → List ℕ → Error → List ℕ → Type 0
IsOutputBefore to input e output =
    (rest : List ℕ) × IsOutputOfFirst to input output rest × EndsTheItems rest e
