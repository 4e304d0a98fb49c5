-- How far the digits of a string in chunks reach, and the error of a wrong chunk.
use Rattle.std.proofs.Common.{◌+◌, arith}
use Rattle.std.proofs.lemmas.Result.{err_from_is_err_and}
use Rattle.cbor_grammar.specs.mirror.StringView.{borrowed_chunk}
use Rattle.cbor_grammar.proofs.bytes.Chunks.{chunk_takes}
use Rattle.cbor_dump.proofs.dump.FrontWidths.{none_yet, chunk_taken, chunk_counted, chunks_measured}
use Rattle.cbor_bytes.proofs.reading.Readings.{fails_then, ok_then}
use Rattle.cbor_bytes.proofs.reading.ChunksRead.{none_read, one_read, all_read, not_read}
use Rattle.cbor_dump.proofs.width.Reach.chunks.Goals as goal

pub chunks-init : goal.chunks-init
chunks-init c = record {
  read = none_read c.args.kind c.args.bytes.now;
  fits = λ i. omega (arith, c.type_inv.bytes i);
  reach = none_yet c.args.self.now.widest;
}

pub returns-in_err-chunk-clause-refused : goal.returns-in_err-chunk-clause-refused
returns-in_err-chunk-clause-refused c =
    let p = err_from_is_err_and c.from_residual.result c.from_residual.ensures.1 in
    let e = c.in_err-chunk.field-0.0 in
    rw (p.1, p.2) (fails_then e _ _ (not_read c.args.kind c.args.bytes.now c.chunks.rest.now e
    c.chunks.invariant.read c.in_err-chunk.ensures.gives))

pub returns-in_default-clause-measured : goal.returns-in_default-clause-measured
returns-in_default-clause-measured c =
    let i = c.chunks.invariant in
    let kind = c.args.kind in
    let after = c.in_ok-chunk.after.now in
    let whole = all_read kind c.args.bytes.now c.chunks.rest.now after i.read
    (rw c.in_default.is at c.in_ok-chunk.ensures.gives) c.in_ok-chunk.ensures.shorter in
    chunks_measured c.args.place kind c.args.bytes.now after i.read.chunks c.args.self.now.widest c.chunks.self.widest
    c.head.new.self.widest
    (ok_then _ (i.read.chunks, after) _ whole) i.reach c.head.ensures

pub chunk-requires-clause-taken : goal.chunk-requires-clause-taken
chunk-requires-clause-taken c =
    let chunk = borrowed_chunk c.in-Some.field-0-1 c.in-Some.content in
    let taken = chunk_taken c.args.kind c.chunks.rest.now c.in_ok-chunk.after.now chunk
    c.chunks.invariant.fits (rw c.in-Some.is at c.in_ok-chunk.ensures.gives) in
    omega (arith, taken.0)

pub chunk-requires-clause-head : goal.chunk-requires-clause-head
chunk-requires-clause-head c =
    let chunk = borrowed_chunk c.in-Some.field-0-1 c.in-Some.content in
    let taken = chunk_taken c.args.kind c.chunks.rest.now c.in_ok-chunk.after.now chunk
    c.chunks.invariant.fits (rw c.in-Some.is at c.in_ok-chunk.ensures.gives) in
    omega (arith, taken.0, taken.1)

pub chunks-preserved : goal.chunks-preserved
chunks-preserved c =
    let i = c.chunks.invariant in
    let kind = c.args.kind in
    let after = c.in_ok-chunk.after.now in
    let chunk = borrowed_chunk c.in-Some.field-0-1 c.in-Some.content in
    let read = rw c.in-Some.is at c.in_ok-chunk.ensures.gives in
    record {
      read = one_read kind c.args.bytes.now c.chunks.rest.now chunk after i.read read c.in_ok-chunk.ensures.shorter;
      fits = (chunk_takes kind c.chunks.rest.now after chunk i.fits read).1;
      reach = chunk_counted kind (c.args.place.depth + 1) i.read.chunks c.in-Some.field-0-1 c.in-Some.content
          c.chunks.rest.now after c.args.self.now.widest c.chunks.self.widest c.chunk.new.self.widest
          i.fits (rw c.in-Some.is at c.in_ok-chunk.ensures.kind) read i.reach
          c.chunk.ensures;
    }
