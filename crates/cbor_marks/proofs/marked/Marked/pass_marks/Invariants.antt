-- what remains of the text stays
use Rattle.std.proofs.Common.{◌≡◌, length}
use Rattle.cbor_marks.specs.Remaining.{rest_of}
use Rattle.cbor_marks.proofs.marked.Marked.pass_marks.Given as goal

abbrev pub invariant-marks : goal.invariant-marks
invariant-marks l = rest_of l.self ≡ rest_of l.initial.self

abbrev pub decreases-marks : goal.decreases-marks
decreases-marks l = length l.self.marks.now
