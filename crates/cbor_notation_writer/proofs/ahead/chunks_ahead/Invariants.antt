-- The budget lacks the estimate of the chunks before the rest, and each chunk takes some of it.
use Rattle.std.proofs.Common.{◌≤◌}
use Rattle.cbor_notation_writer.proofs.straight.StringsAhead.{ChunksSoFar}
use Rattle.cbor_notation_writer.proofs.ahead.chunks_ahead.Given as goal

abbrev pub decreases-chunks : goal.decreases-chunks
decreases-chunks l = l.left

abbrev pub invariant-chunks : goal.invariant-chunks
invariant-chunks l = record {
  so_far : ChunksSoFar l.budget l.kind l.bytes l.left l.rest;
  room : l.left ≤ l.budget;
}
