-- What is written are the lines of the chunks before the rest, and each chunk shortens the rest.
use Rattle.std.proofs.Common.{◌≡◌, length}
use Rattle.std.specs.List.{flat_map}
use Rattle.cbor_dump.specs.Dump.{inside, string_lines}
use Rattle.cbor_dump.specs.mirror.Dumped.{context_view, Wrote}
use Rattle.cbor_grammar.proofs.bytes.Heads.{IsBytes}
use Rattle.cbor_bytes.proofs.reading.ChunksRead.{ChunksRead}
use Rattle.cbor_dump.proofs.walk.dump_chunks.Given as goal

abbrev pub decreases-chunks : goal.decreases-chunks
decreases-chunks l = length l.rest

-- what was read of the chunks, and their lines
abbrev pub invariant-chunks : goal.invariant-chunks
invariant-chunks l = record {
  read : ChunksRead l.kind l.bytes l.rest;
  wrote : Wrote l.fn.walk.writer l.walk.writer
      (flat_map (string_lines l.kind (inside (context_view l.context))) read.chunks);
  fits : IsBytes l.rest;
  shared : l.walk.shared ≡ l.fn.walk.shared;
}
