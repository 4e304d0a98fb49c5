-- What is written for the chunks that are left is written for all of them.
use Rattle.std.proofs.Common.{◌≤◌, ℕ, List, length}
use Rattle.cbor_reencode.specs.mirror.Rewritten.{RewrittenChunks}
use Rattle.cbor_reencode.proofs.encoder.Encoder.push_chunks.Given as goal

abbrev pub decreases-chunks : goal.decreases-chunks
decreases-chunks l = length l.rest

abbrev pub invariant-chunks : goal.invariant-chunks
invariant-chunks l = record {
  shorter : length l.rest ≤ length l.bytes;
  more : (after new : List ℕ) → RewrittenChunks l.self.rules l.kind l.rest after l.out.items new
      → RewrittenChunks l.self.rules l.kind l.bytes after l.fn.out.items new;
}
