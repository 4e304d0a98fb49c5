-- What a look at chunks leaves of the budget is what the estimate of their string leaves.
use Rattle.std.proofs.Common.{arith}
use Rattle.cbor_grammar.specs.Reading.{read_chunk_length}
use Rattle.cbor_grammar.specs.mirror.MajorNumber.{major_number}
use Rattle.cbor_notation_writer.proofs.straight.Ahead.{at_most}
use Rattle.cbor_notation_writer.proofs.straight.StringsAhead.{no_chunks_yet, one_chunk_more, chunk_takes_all}
use Rattle.cbor_bytes.proofs.reading.Readings.{failed}
use Rattle.cbor_notation_writer.proofs.straight.StringsAhead.{chunks_found}
use Rattle.cbor_notation_writer.proofs.straight.StringsAhead.{chunk_unread}
use Rattle.cbor_notation_writer.proofs.ahead.chunks_ahead.Goals as goal

pub chunks-init : goal.chunks-init
chunks-init c = record {
  so_far = no_chunks_yet c.args.budget c.args.kind c.args.bytes.now;
  room = omega arith;
}

pub returns-in_default-clause-leaves : goal.returns-in_default-clause-leaves
returns-in_default-clause-leaves c =
    let fails = failed c.in_default.field-0 (read_chunk_length (major_number c.major.result) c.chunks.rest.now)
    c.in_default.ensures.refused c.in_default.ensures.gives in
    chunk_unread c.args.budget c.args.kind c.args.bytes.now c.chunks.left c.chunks.rest.now
    c.in_default.field-0 c.chunks.invariant.so_far (rw c.major.ensures at fails)

pub returns-in_default-length-clause-leaves : goal.returns-in_default-length-clause-leaves
returns-in_default-length-clause-leaves c =
    chunks_found c.new.result c.args.budget c.args.kind c.args.bytes.now c.chunks.left c.chunks.rest.now
    c.in-Ok.after.now c.chunks.invariant.so_far (rw (c.major.ensures, c.in_default-length.is) at c.in-Ok.ensures.gives)
    c.new.ensures.leaves

pub returns-in_default-length-clause-takes : goal.returns-in_default-length-clause-takes
returns-in_default-length-clause-takes c =
    at_most c.new.result c.chunks.left c.args.budget c.chunks.invariant.room c.new.ensures.left

pub returns-in_err-chunk-clause-leaves : goal.returns-in_err-chunk-clause-leaves
returns-in_err-chunk-clause-leaves c =
    rw c.from_residual.ensures (chunk_takes_all c.args.budget c.args.kind c.args.bytes.now c.chunks.left
    c.chunks.rest.now c.in-Some.count c.in-Some.field-0-1 c.in-Ok.after.now c.chunks.invariant.so_far
    (rw (c.major.ensures, c.in-Some.is) at c.in-Ok.ensures.gives) (c.in_err-chunk.ensures.leaves c.in-Some.field-0-1))

pub chunks-preserved : goal.chunks-preserved
chunks-preserved c = record {
  so_far = rw c.saturating_sub-left.ensures (one_chunk_more c.args.budget c.args.kind c.args.bytes.now
      c.chunks.left c.chunks.rest.now c.in-Some.count c.in-Some.field-0-1 c.in-Ok.after.now c.in_ok-chunk.chunk
      c.chunks.invariant.so_far (rw (c.major.ensures, c.in-Some.is) at c.in-Ok.ensures.gives)
      (c.in_ok-chunk.ensures.leaves c.in-Some.field-0-1));
  room = omega (arith, c.chunks.invariant.room, c.in_ok-chunk.ensures.takes.1);
}
