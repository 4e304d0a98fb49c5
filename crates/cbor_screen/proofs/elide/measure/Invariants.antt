use Rattle.std.proofs.Common.{◌-◌, ◌≤◌, length}
use Rattle.cbor_screen.proofs.elide.measure.Given as goal

abbrev pub invariant-content : goal.invariant-content
invariant-content l = (l.at ≤ length l.content) × (l.bytes ≤ l.at)

abbrev pub decreases-content : goal.decreases-content
decreases-content l = length l.content - l.at
