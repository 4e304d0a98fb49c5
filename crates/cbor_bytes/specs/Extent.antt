-- `IsExtent`: an answer of `extent` is true of bytes. They begin with an item of that length, are truncated, or are
-- malformed within that number of first bytes. `IfItem` and `IfFault` state a fact of the length or of the fault, if
-- the answer has one.
use Rattle.std.specs.Prelude.{ℕ, ◌<◌, ◌≤◌, List, length, take}
use Rattle.cbor_grammar.specs.declared.error.Error.{Error}
use Rattle.cbor_bytes.specs.declared.skip.answer.Extent.{Extent}
use Rattle.cbor_bytes.specs.declared.skip.answer.Extent.TheVariants as extent
use Rattle.cbor_grammar.specs.Item.{Item}
use Rattle.cbor_grammar.specs.Facts.{BeginsWithItem, IsCut, HasFault}

-- a fact of how many bytes the item takes, if there is one
abbrev pub IfItem : Extent → (ℕ → Type 0) → Type 0
IfItem (extent.Item n) Fact = Fact n
IfItem _ Fact = Unit {0}

-- a fact of the error and of how many first bytes show it, if there is one
abbrev pub IfFault : Extent → (Error → ℕ → Type 0) → Type 0
IfFault (extent.Fault error end) Fact = Fact error end
IfFault _ Fact = Unit {0}

-- a number of first bytes, at least one, have the fault
abbrev pub FaultEnds : List ℕ → Error → ℕ → Type 0
FaultEnds b error end = (1 ≤ end) × (end ≤ length b) × HasFault (take end b) error

-- How the bytes begin: with an item of this length; cut; or with a fault. The fault is in this number of first bytes,
-- and any fewer are cut.
abbrev pub IsExtent : List ℕ → Extent → Type 0
IsExtent b (extent.Item n) = (i : Item) × BeginsWithItem b i n
IsExtent b extent.Cut = IsCut b
IsExtent b (extent.Fault error end) = FaultEnds b error end × ((n : ℕ) → n < end → IsCut (take n b))
