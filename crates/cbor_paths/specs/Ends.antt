-- `StopsSo`: whether an `End` is true of the bytes that remain after the items of a sequence, such as `Done` if there
-- are none, `Cut` if they are truncated, and `Fault` if they are malformed. `EndsSo` also allows `Full`, which says
-- nothing of these bytes.
use Rattle.std.specs.Prelude.{◌≡◌, ◌≢◌, ℕ, ◌<◌, List, [], take}
use Rattle.cbor_grammar.specs.declared.error.Error.{Error}
use Rattle.cbor_grammar.specs.Item.{Item}
use Rattle.cbor_grammar.specs.Facts.{IsCut, BeginsWithItem}
use Rattle.cbor_bytes.specs.Extent.{FaultEnds}
use Rattle.cbor_paths.specs.declared.end.End.{End}
use Rattle.cbor_paths.specs.declared.end.End.TheVariants as end

-- the bytes are no item: that number of first bytes has the fault, and fewer are cut
abbrev pub FaultAt : List ℕ → Error → ℕ → Type 0
FaultAt rest error shown = FaultEnds rest error shown × ((n : ℕ) → n < shown → IsCut (take n rest))

-- what an end says of the bytes that remain, where they were looked at
abbrev pub StopsSo : List ℕ → End → Type 0
StopsSo rest end.Full = ⊥
StopsSo rest end.Done = rest ≡ []
StopsSo rest end.Cut = (rest ≢ []) × IsCut rest
StopsSo rest (end.Fault error shown) = FaultAt rest error shown
StopsSo rest (end.Lost len) = (i : Item) × BeginsWithItem rest i len
StopsSo rest end.Memory = Unit {0}
StopsSo rest (end.TwoByteSimple at) = ⊥
StopsSo rest end.Remaining = ⊥

-- the same; nothing where they were not
abbrev pub EndsSo : List ℕ → End → Type 0
EndsSo rest end.Full = Unit {0}
EndsSo rest other = StopsSo rest other
