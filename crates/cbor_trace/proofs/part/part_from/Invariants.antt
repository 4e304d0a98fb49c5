-- The parts before are whole, and end before the byte.
use Rattle.std.proofs.Common.{length}
use Rattle.cbor_trace.proofs.Parts.{IsReached}
use Rattle.cbor_trace.proofs.part.part_from.Given as goal

abbrev pub invariant-parts : goal.invariant-parts
invariant-parts l = IsReached l.total l.level l.bytes l.at l.fn.first l.«open» l.rest

abbrev pub decreases-parts : goal.decreases-parts
decreases-parts l = length l.rest
