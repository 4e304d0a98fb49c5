use Rattle.std.proofs.Common.{◌-◌}
use Rattle.cbor_trace.proofs.heads.place_of_fault.Given as goal

abbrev pub decreases-heads : goal.decreases-heads
decreases-heads l = l.end - l.at
