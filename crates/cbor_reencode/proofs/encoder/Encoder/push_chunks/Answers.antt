-- Each chunk is written before those that are left.
use Rattle.std.proofs.Common.{◌++◌, length, ap, ◌∙◌, arith}
use Rattle.cbor_grammar.specs.declared.width.IntegerWidth.{IntegerWidth}
use Rattle.cbor_grammar.specs.StringKind.{major_of}
use Rattle.cbor_grammar.specs.Written.{encoded_head}
use Rattle.cbor_reencode.proofs.Atoms.{chunks_end, chunks_more}
use Rattle.cbor_reencode.proofs.encoder.Encoder.push_chunks.Goals as goal

pub returns-in_default-clause-writes : goal.returns-in_default-clause-writes
returns-in_default-clause-writes c =
    let at = rw c.in_default.is at c.in_ok-chunk.ensures.is in
    c.chunks.invariant.more c.in_ok-chunk.after.now c.chunks.out.items
    (chunks_end c.args.self.rules c.args.kind c.chunks.rest.now c.in_ok-chunk.after.now c.chunks.out.items at)

pub chunks-preserved : goal.chunks-preserved
chunks-preserved c =
    let i = c.chunks.invariant in
    let piece = c.in-Some.piece.now in
    let after_it = c.in_ok-chunk.after.now in
    let at = rw c.in-Some.is at c.in_ok-chunk.ensures.is in
    let is = c.in_ok-push_content.ensures ∙ ap (λ (w : IntegerWidth). c.chunks.out.items
    ++ (encoded_head (major_of c.args.kind) (length piece) w ++ piece)) c.width.ensures.is in
    record {
      shorter = omega (arith, c.in_ok-chunk.ensures.shorter);
      more = λ after new j. i.more after new (chunks_more c.args.self.rules c.args.kind c.chunks.rest.now piece
          c.in-Some.width after_it after c.chunks.out.items c.push_content.new.out.items new at is j);
    }
