-- The lines of a string in chunks are those of the chunks that reading gives, and of the break.
use Rattle.std.proofs.Common.{◌+◌, ◌-◌, ℕ, List, length, refl, ap, sym, ◌∙◌, arith}
use Rattle.std.proofs.lemmas.Result.{err_from_is_err_and}
use Rattle.cbor_grammar.specs.StringKind.{major_of}
use Rattle.cbor_grammar.specs.Written.{encoded_head}
use Rattle.cbor_grammar.specs.mirror.StringView.{kind_of, borrowed_chunk}
use Rattle.cbor_grammar.proofs.bytes.Chunks.{chunk_takes}
use Rattle.cbor_bytes.proofs.reading.Readings.{fails_then}
use Rattle.cbor_bytes.proofs.reading.ChunksRead.{none_read, one_read, all_read, not_read}
use Rattle.cbor_dump.proofs.dump.Fronts.{chunk_done, chunks_dumped}
use Rattle.cbor_dump.proofs.dump.HeadLines.{chunk_fits, chunk_head}
use Rattle.cbor_dump.proofs.dump.Walks.{wrote_none}
use Rattle.cbor_dump.proofs.walk.dump_chunks.Goals as goal

pub chunks-init : goal.chunks-init
chunks-init c = record {
  read = none_read c.args.kind c.args.bytes.now;
  fits = λ i. omega (arith, c.type_inv.bytes i);
  wrote = wrote_none c.args.walk.now.writer;
  shared = refl;
}

pub returns-in_err-chunk-clause-refused : goal.returns-in_err-chunk-clause-refused
returns-in_err-chunk-clause-refused c =
    let p = err_from_is_err_and c.from_residual.result c.from_residual.ensures.1 in
    let e = c.in_err-chunk.field-0.0 in
    rw (p.1, p.2) (fails_then e _ _ (not_read c.args.kind c.args.bytes.now c.chunks.rest.now e
    c.chunks.invariant.read c.in_err-chunk.ensures.gives))

pub returns-in_default-clause-dumped : goal.returns-in_default-clause-dumped
returns-in_default-clause-dumped c =
    let i = c.chunks.invariant in
    let kind = c.args.kind in
    let after = c.in_ok-chunk.after.now in
    let whole = all_read kind c.args.bytes.now c.chunks.rest.now after i.read
    (rw c.in_default.is at c.in_ok-chunk.ensures.gives) c.in_ok-chunk.ensures.shorter in
    chunks_dumped c.args.context.now c.inside-inner.result kind i.read.chunks c.args.bytes.now after c.args.walk.now
    c.chunks.walk _ c.inside-inner.ensures.depth whole i.wrote
    c.in_ok-break_line.ensures i.shared

pub slice_bounds-head-count : goal.slice_bounds-head-count
slice_bounds-head-count c =
    let chunk = borrowed_chunk c.in-Some.width c.in-Some.content in
    let fits = chunk_fits c.args.kind c.chunks.rest.now c.in_ok-chunk.after.now chunk
    c.chunks.invariant.fits (rw c.in-Some.is at c.in_ok-chunk.ensures.gives) in
    omega (arith, fits, ap length c.as_bytes.ensures.bytes)

pub chunk-requires-clause-head : goal.chunk-requires-clause-head
chunk-requires-clause-head c =
    let kind = c.args.kind in
    let b = c.chunks.rest.now in
    let after = c.in_ok-chunk.after.now in
    let chunk = borrowed_chunk c.in-Some.width c.in-Some.content in
    let same = rw c.in-Some.is at c.in_ok-chunk.ensures.kind in
    chunk_head kind b after _ chunk (length b - (length c.as_bytes.result.now + length after)) c.chunks.invariant.fits
    (rw c.in-Some.is at c.in_ok-chunk.ensures.gives)
    (ap (λ (x : List ℕ). length b - (length x + length after)) c.as_bytes.ensures.bytes) refl
    ∙ ap (λ k. encoded_head (major_of k) (length chunk.bytes) chunk.width) (sym same)

pub chunks-preserved : goal.chunks-preserved
chunks-preserved c =
    let i = c.chunks.invariant in
    let kind = c.args.kind in
    let after = c.in_ok-chunk.after.now in
    let chunk = borrowed_chunk c.in-Some.width c.in-Some.content in
    let read = rw c.in-Some.is at c.in_ok-chunk.ensures.gives in
    record {
      read = one_read kind c.args.bytes.now c.chunks.rest.now chunk after i.read read c.in_ok-chunk.ensures.shorter;
      fits = (chunk_takes kind c.chunks.rest.now after chunk i.fits read).1;
      wrote = chunk_done kind c.args.context.now c.inside-inner.result i.read.chunks chunk (kind_of c.in-Some.content)
          c.args.walk.now.writer c.chunks.walk.writer c.chunk.new.self c.inside-inner.ensures.context
          (rw c.in-Some.is at c.in_ok-chunk.ensures.kind) i.wrote c.in_ok-chunk-2.ensures;
      shared = i.shared;
    }
