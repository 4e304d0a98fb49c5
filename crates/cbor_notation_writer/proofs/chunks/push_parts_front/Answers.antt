-- What is appended from bytes is the text of a string in chunks, or reading the chunks fails the same.
use Rattle.std.proofs.Common.{subst, arith}
use Rattle.std.proofs.lemmas.Result.{err_from_is_err_and}
use Rattle.std.specs.String.{string_bytes}
use Rattle.cbor_grammar.specs.Item.{atom, chunked_string}
use Rattle.cbor_grammar.specs.mirror.StringView.{borrowed_chunk}
use Rattle.cbor_tokens.proofs.texts.Appending.{begins_same, begins_after_member}
use Rattle.cbor_bytes.proofs.reading.Readings.{fails_then, ok_then}
use Rattle.cbor_notation_writer.specs.Dialect.{located, with_bytes}
use Rattle.cbor_notation_writer.proofs.straight.ChunkTexts.{no_chunks_written, one_chunk_written, chunks_written}
use Rattle.cbor_bytes.proofs.reading.ChunksRead.{none_read, one_read, all_read, not_read}
use Rattle.cbor_notation_writer.proofs.chunks.push_parts_front.Goals as goal

pub chunks-init : goal.chunks-init
chunks-init g c =
    let old = string_bytes c.args.out.now in
    record {
      read = none_read c.args.kind c.args.bytes.now;
      written = no_chunks_written (located g.D.Dialect.leaves g.D.Dialect.becomes)
          (c.args.place.now, c.args.bytes.now) c.args.kind c.chunks_style-style.result old;
      begun = begins_same old;
      room = omega arith;
    }

pub returns-in_err-chunk-clause-refused : goal.returns-in_err-chunk-clause-refused
returns-in_err-chunk-clause-refused g c =
    let p = err_from_is_err_and c.from_residual.result c.from_residual.ensures.1 in
    let e = c.in_err-chunk.field-0.0 in
    rw (p.1, p.2) (fails_then e _ _ (not_read c.args.kind c.args.bytes.now c.chunks.rest.now e
    c.chunks.invariant.read c.in_err-chunk.ensures.gives))

pub returns-in_default-clause-printed : goal.returns-in_default-clause-printed
returns-in_default-clause-printed g c =
    let d = located g.D.Dialect.leaves g.D.Dialect.becomes in
    let i = c.chunks.invariant in
    let kind = c.args.kind in
    let place = with_bytes c.args.place.now c.args.bytes.now in
    let after = c.in_ok-chunk.after.now in
    let cs = i.read.chunks in
    let whole = all_read kind c.args.bytes.now c.chunks.rest.now after i.read
    (rw c.in_default.is at c.in_ok-chunk.ensures.gives) c.in_ok-chunk.ensures.shorter in
    let read = ok_then _ (cs, after) _ whole in
    let styled = c.chunks_style-style.ensures.style 0 cs after read in
    let text = chunks_written d place kind c.chunks_style-style.result (string_bytes c.args.out.now)
    (string_bytes c.chunks.out) (string_bytes c.push_chunks_end.new.out) cs c.chunks.held
    c.requires.parts styled
    i.written c.in_ok-push_chunks_end.ensures in
    (atom (chunked_string kind cs), read, text.0, text.1, text.2)

pub chunks-preserved : goal.chunks-preserved
chunks-preserved g c =
    let d = located g.D.Dialect.leaves g.D.Dialect.becomes in
    let i = c.chunks.invariant in
    let kind = c.args.kind in
    let place = with_bytes c.args.place.now c.args.bytes.now in
    let after = c.in_ok-chunk.after.now in
    let chunk = borrowed_chunk c.in-Some.width c.in-Some.content in
    let old = string_bytes c.args.out.now in
    let out = string_bytes c.chunks.out in
    let started = string_bytes c.push_chunk_start.new.out in
    let written = string_bytes c.part.new.out in
    let read = rw c.in-Some.is at c.in_ok-chunk.ensures.gives in
    let same = rw c.in-Some.is at c.in_ok-chunk.ensures.kind in
    let b = c.in_ok-push_chunk_start.ensures in
    let m = c.in_ok-part.ensures in
    let part = subst (λ k. d.part place k chunk m.0) same m.1 in
    record {
      read = one_read kind c.args.bytes.now c.chunks.rest.now chunk after i.read read c.in_ok-chunk.ensures.shorter;
      written = one_chunk_written d place kind c.chunks_style-style.result old out started written
          (string_bytes c.end.new.out) i.read.chunks chunk c.chunks.held i.written b (m.0, part, m.2)
          c.in_ok-end.ensures;
      begun = begins_after_member old out started written (string_bytes c.end.new.out) b.0 m.0 _ i.begun b.2 m.2
          c.in_ok-end.ensures;
      room = omega (arith, i.room, c.in_ok-chunk.ensures.shorter);
    }
