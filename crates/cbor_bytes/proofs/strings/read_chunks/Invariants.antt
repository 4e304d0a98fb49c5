use Rattle.std.proofs.Common.{◌≡◌, ℕ, ◌+◌, ◌*◌, ◌≤◌, length, map}
use Rattle.cbor_grammar.specs.Reading.{later, read_chunks}
use Rattle.cbor_grammar.proofs.turns.ChunkLoops.{onto}
use Rattle.cbor_bytes.proofs.strings.read_chunks.Given as goal

abbrev pub decreases-chunks : goal.decreases-chunks
decreases-chunks g l = length l.rest

abbrev pub invariant-chunks : goal.invariant-chunks
invariant-chunks g l = record {
  bound : ℕ;
  enough : length l.rest ≤ bound;
  so_far : later l.turns (onto (map g.S.DefiniteString.chunk l.chunks.items)
      (read_chunks bound g.S.DefiniteString.kind l.rest))
      ≡ later l.initial.turns (read_chunks (length l.bytes) g.S.DefiniteString.kind l.bytes);
  falls : l.turns + 2 * length l.rest ≤ l.initial.turns + 2 * length l.bytes;
  rises : l.initial.turns ≤ l.turns;
}
