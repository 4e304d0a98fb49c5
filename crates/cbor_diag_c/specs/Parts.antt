-- The results of the C calls that find parts of an item by a path: a part is an item between two places (`IsPartAt`),
-- or the number of an error says why there is no part (`IsNoPart`).
use Rattle.std.specs.Prelude.{◌≡◌, ◌⊎◌, ℕ, ◌+◌, List, drop}
use Rattle.cbor_grammar.specs.declared.error.Error.{Error}
use Rattle.cbor_grammar.specs.Item.{Item}
use Rattle.cbor_grammar.specs.Facts.{BeginsWithItem}
use Rattle.cbor_grammar.specs.Refusals.{number_of}
use Rattle.cbor_inspect.specs.declared.name.NameError.{NameError}
use Rattle.cbor_inspect.specs.declared.name.NameError.TheVariants.{Cbor, NoPart}
use Rattle.cbor_diag_c.specs.Answers.{no_part}
use Rattle.cbor_diag_c.specs.Names.{IsOneItem, IsNoItemOrText}

-- the bytes from the one place to the other are an item
abbrev pub IsPartAt : List ℕ → ℕ → ℕ → Type 0
IsPartAt b start end = (n : ℕ) × (end ≡ start + n) × (i : Item) × BeginsWithItem (drop start b) i n

-- the number of the error for which there is no part
abbrev pub part_error : NameError → ℕ
part_error (Cbor e) = number_of e
part_error NoPart = no_part

-- why there is no part, by the number of the error: the input is no item, the path is no text, or it leads nowhere
abbrev pub IsNoPart : List ℕ → List ℕ → ℕ → Type 0
IsNoPart input path n =
    ((e : Error) × (n ≡ number_of e) × IsNoItemOrText input path e) ⊎ ((n ≡ no_part) × IsOneItem input)
