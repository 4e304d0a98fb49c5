-- `HasNoName`: what the error says of the bytes if no name is found at the end of a path. `Cbor` says why they are not
-- an item. `NoPart` says that they are an item; the path leads to no part of it.
use Rattle.std.specs.Prelude.{ℕ, List}
use Rattle.cbor_grammar.specs.Item.{Item}
use Rattle.cbor_grammar.specs.Facts.{IsItem, IsNoItem}
use Rattle.cbor_grammar.specs.declared.error.Error.TheVariants as refusal
use Rattle.cbor_inspect.specs.declared.name.NameError.{NameError}
use Rattle.cbor_inspect.specs.declared.name.NameError.TheVariants.{Cbor, NoPart}

-- the bytes are no item, or the path leads to no part of the item that they are; nothing is said of memory
abbrev pub HasNoName : List ℕ → NameError → Type 0
HasNoName b (Cbor refusal.Memory) = Unit {0}
HasNoName b (Cbor e) = IsNoItem b e
HasNoName b NoPart = (i : Item) × IsItem b i
