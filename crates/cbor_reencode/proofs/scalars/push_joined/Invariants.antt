-- What is appended for the chunks that are left is appended for all of them.
use Rattle.std.proofs.Common.{◌≤◌, ℕ, List, length}
use Rattle.cbor_reencode.specs.mirror.Rewritten.{Joined}
use Rattle.cbor_reencode.proofs.scalars.push_joined.Given as goal

abbrev pub decreases-chunks : goal.decreases-chunks
decreases-chunks l = length l.rest

abbrev pub invariant-chunks : goal.invariant-chunks
invariant-chunks l = record {
  shorter : length l.rest ≤ length l.bytes;
  more : (after new : List ℕ) → Joined l.kind l.rest after l.content.items new
      → Joined l.kind l.bytes after l.fn.content.items new;
}
