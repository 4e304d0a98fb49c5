-- The line end that is searched for is one of those from `low` on and before `high`.
use Rattle.std.proofs.Common.{◌≤◌, ◌-◌, length}
use Rattle.cbor_names.proofs.file.placed.Given as goal

abbrev pub invariant-halves : goal.invariant-halves
invariant-halves l = (l.low ≤ l.high) × (l.high ≤ length l.ends.items)

abbrev pub decreases-halves : goal.decreases-halves
decreases-halves l = l.high - l.low
