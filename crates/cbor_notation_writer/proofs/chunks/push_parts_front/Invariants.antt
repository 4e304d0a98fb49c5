-- What is written is the text of the chunks before the rest, and each chunk shortens the rest.
use Rattle.std.proofs.Common.{◌+◌, ◌≤◌, length}
use Rattle.std.specs.Io.{StartsWith}
use Rattle.std.specs.String.{string_bytes}
use Rattle.cbor_bytes.proofs.reading.ChunksRead.{ChunksRead}
use Rattle.cbor_notation_writer.specs.Dialect.{located}
use Rattle.cbor_notation_writer.proofs.straight.ChunkTexts.{ChunksWritten}
use Rattle.cbor_notation_writer.proofs.chunks.push_parts_front.Given as goal

abbrev pub decreases-chunks : goal.decreases-chunks
decreases-chunks g l = length l.rest

-- what was read of the chunks, and their text
abbrev pub invariant-chunks : goal.invariant-chunks
invariant-chunks g l = record {
  read : ChunksRead l.kind l.bytes l.rest;
  written : ChunksWritten (located g.D.Dialect.leaves g.D.Dialect.becomes) (l.place, l.bytes) l.kind l.style
      (string_bytes l.fn.out) (string_bytes l.out) read.chunks l.held;
  begun : StartsWith (string_bytes l.out) (string_bytes l.fn.out);
  room : l.held + length l.rest ≤ length l.bytes;
}
