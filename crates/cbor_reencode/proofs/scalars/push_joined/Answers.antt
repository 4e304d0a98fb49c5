-- Each chunk is appended before those that are left.
use Rattle.std.proofs.Common.{arith}
use Rattle.cbor_reencode.proofs.Atoms.{joined_more}
use Rattle.cbor_reencode.proofs.scalars.push_joined.Goals as goal

pub chunks-preserved : goal.chunks-preserved
chunks-preserved c =
    let i = c.chunks.invariant in
    let at = rw c.in-Some.is at c.in_ok-chunk.ensures.is in
    record {
      shorter = omega (arith, c.in_ok-chunk.ensures.shorter);
      more = λ after new j.
          i.more after new (joined_more c.args.kind c.chunks.rest.now c.in-Some.piece.now _
          c.in_ok-chunk.after.now after c.chunks.content.items c.extend_from_slice.new.self.items new at
          c.in_ok-extend_from_slice.ensures.items j);
    }
