-- Each chunk takes bytes.
use Rattle.std.proofs.Common.{◌≤◌, length}
use Rattle.cbor_names.proofs.walk.after_chunks.Given as goal

abbrev pub invariant-chunks : goal.invariant-chunks
invariant-chunks l = length l.rest ≤ length l.bytes

abbrev pub decreases-chunks : goal.decreases-chunks
decreases-chunks l = length l.rest
