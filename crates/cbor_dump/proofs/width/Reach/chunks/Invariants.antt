-- What is found is the width of the chunks before the rest, and each chunk shortens the rest.
use Rattle.std.proofs.Common.{◌≡◌, ◌+◌, length, max}
use Rattle.cbor_dump.specs.mirror.Widths.{chunks_width}
use Rattle.cbor_grammar.proofs.bytes.Heads.{IsBytes}
use Rattle.cbor_bytes.proofs.reading.ChunksRead.{ChunksRead}
use Rattle.cbor_dump.proofs.width.Reach.chunks.Given as goal

abbrev pub decreases-chunks : goal.decreases-chunks
decreases-chunks l = length l.rest

-- what was read of the chunks, and how far their digits reach
abbrev pub invariant-chunks : goal.invariant-chunks
invariant-chunks l = record {
  read : ChunksRead l.kind l.bytes l.rest;
  fits : IsBytes l.rest;
  reach : l.self.widest ≡ max l.fn.self.widest (chunks_width l.kind (l.fn.place.depth + 1) read.chunks);
}
