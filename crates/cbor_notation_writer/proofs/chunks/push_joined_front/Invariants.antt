-- What was read of the chunks, and their bytes.
use Rattle.std.proofs.Common.{◌≡◌, length}
use Rattle.std.specs.String.{string_bytes}
use Rattle.cbor_grammar.specs.declared.strings.StringKind.TheVariants.{Bytes}
use Rattle.cbor_bytes.proofs.reading.ChunksRead.{ChunksRead}
use Rattle.cbor_notation_writer.specs.Dialect.{joined}
use Rattle.cbor_notation_writer.proofs.chunks.push_joined_front.Given as goal

abbrev pub decreases-chunks : goal.decreases-chunks
decreases-chunks g l = length l.rest

-- nothing is written before the last chunk is read
abbrev pub invariant-chunks : goal.invariant-chunks
invariant-chunks g l = record {
  read : ChunksRead Bytes l.bytes l.rest;
  together : l.joined.items ≡ (joined read.chunks).bytes;
  same : string_bytes l.out ≡ string_bytes l.fn.out;
}
