-- The way from the outermost item to this one, and no other way.
use Rattle.std.proofs.Common.{◌-◌}
use Rattle.cbor_trace.proofs.Carried.{IsCarried}
use Rattle.cbor_trace.proofs.Ways.{IsOnWay}
use Rattle.cbor_trace.proofs.walk.innermost.Given as goal

abbrev pub invariant-levels : goal.invariant-levels
invariant-levels l = IsOnWay l.bytes l.at l.spot × IsCarried l.bytes l.at l.spot

abbrev pub decreases-levels : goal.decreases-levels
decreases-levels l = 129 - l.spot.level
