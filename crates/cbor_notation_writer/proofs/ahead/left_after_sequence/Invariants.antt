-- The budget lacks the estimate of the items before the rest, and each item takes some of it.
use Rattle.std.proofs.Common.{◌-◌}
use Rattle.cbor_notation_writer.proofs.straight.SequencesAhead.{SequenceSoFar}
use Rattle.cbor_notation_writer.proofs.ahead.left_after_sequence.Given as goal

abbrev pub decreases-items : goal.decreases-items
decreases-items l = l.left

abbrev pub invariant-items : goal.invariant-items
invariant-items l = SequenceSoFar l.budget (129 - l.level) l.bytes l.left l.rest
