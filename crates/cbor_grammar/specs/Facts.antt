-- The facts that public contracts state, for items at the outermost level. Bytes encode an item (`IsItem`) or begin
-- with one (`BeginsWithItem`), are truncated (`IsCut`) or are malformed (`HasFault`). An item has an encoding
-- (`IsWellFormed`), texts in diagnostic notation (`diag_of`, `pretty_of`) and a normal form (`normal_of`).
use Rattle.std.specs.Prelude.{ℕ, ◌≤◌, List, length, take}
use Rattle.cbor_grammar.specs.declared.error.Error.{Error}
use Rattle.cbor_grammar.specs.Item.{Item}
use Rattle.cbor_grammar.specs.WellFormed.{WellFormed}
use Rattle.cbor_grammar.specs.Bytes.{any, strict, Spells}
use Rattle.cbor_grammar.specs.Refused.{Cut, Fault}
use Rattle.cbor_grammar.specs.declared.encoding.Encoding.TheVariants.{Base16}
use Rattle.cbor_grammar.specs.Compact.{compact}
use Rattle.cbor_grammar.specs.Pretty.{pretty}
use Rattle.cbor_grammar.specs.Normal.{normal}
use Rattle.cbor_grammar.specs.Answer.{Outcome, IsOutcome, OneOutcome, IsRefused}

-- all of the bytes encode this item
abbrev pub IsItem : List ℕ → Item → Type 0
IsItem b i = Spells any 1 b i

-- the same, and no simple value below 24 is in a non-minimal encoding (`f8 00`)
abbrev pub IsStrictItem : List ℕ → Item → Type 0
IsStrictItem b i = Spells strict 1 b i

-- the first n bytes encode this item, and n is at least 1
abbrev pub BeginsWithItem : List ℕ → Item → ℕ → Type 0
BeginsWithItem b i n = (1 ≤ n) × (n ≤ length b) × IsItem (take n b) i

-- the bytes end before their item does, and before any fault
abbrev pub IsCut : List ℕ → Type 0
IsCut b = Cut 1 b

-- no item begins so, and why
abbrev pub HasFault : List ℕ → Error → Type 0
HasFault b e = Fault 1 b e

-- why the bytes are not one whole item
abbrev pub IsNoItem : List ℕ → Error → Type 0
IsNoItem b e = IsRefused 1 b e

-- the bytes begin so: with an item, cut, or with a fault
abbrev pub BeginsSo : List ℕ → Outcome → Type 0
BeginsSo b o = IsOutcome 1 b o

-- the bytes begin in exactly one of these ways
abbrev pub BeginsInOneWay : List ℕ → Type 0
BeginsInOneWay b = OneOutcome 1 b

-- the item has an encoding
abbrev pub IsWellFormed : Item → Type 0
IsWellFormed i = WellFormed 1 i

-- the item in diagnostic notation, on one line and over several
abbrev pub diag_of : Item → List ℕ
diag_of i = compact Base16 1 i

abbrev pub pretty_of : Item → List ℕ
pretty_of i = pretty Base16 1 0 i

-- what these texts say of the item
abbrev pub normal_of : Item → Item
normal_of i = normal 1 i
