-- What is written for the items that are left is written for all of them.
use Rattle.std.proofs.Common.{ℕ, List, [], length}
use Rattle.cbor_reencode.specs.mirror.Rewritten.{Sequence}
use Rattle.cbor_reencode.proofs.encoder.Encoder.items.Given as goal

abbrev pub decreases-items : goal.decreases-items
decreases-items l = length l.rest

abbrev pub invariant-items : goal.invariant-items
invariant-items l = record {
  more : (new : List ℕ) → Sequence l.self.rules l.rest l.out.items new → Sequence l.self.rules l.bytes [] new;
}
