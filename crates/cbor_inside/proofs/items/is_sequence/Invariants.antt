use Rattle.std.proofs.Common.{◌+◌, length}
use Rattle.cbor_grammar.specs.WellFormed.{levels_left}
use Rattle.cbor_inside.proofs.Readings.{Leaves}
use Rattle.cbor_inside.proofs.items.is_sequence.Given as goal

-- what is left after the rest is what is left after all of the bytes
abbrev pub invariant-items : goal.invariant-items
invariant-items l = record { leaves : Leaves (levels_left (l.level + 1)) l.rest l.bytes }

abbrev pub decreases-items : goal.decreases-items
decreases-items l = length l.rest
