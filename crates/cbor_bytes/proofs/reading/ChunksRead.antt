-- The invariant of a loop over the chunks of an indefinite string (`ChunksRead`): `read_chunks` of all the bytes gives
-- the chunks so far and then those of the rest. It holds before the first chunk and after each chunk. At the break,
-- `read_chunks` returns the chunks so far; if `read_chunk` fails, `read_chunks` fails with the same error.
use Rattle.std.proofs.Common.{◌≡◌, ℕ, ◌+◌, ◌<◌, ◌≤◌, List, [], ◌∷◌, ◌++◌, length, Some, None, Ok, ap, ◌∙◌, arith}
use Rattle.cbor_grammar.specs.declared.error.Error.{Error}
use Rattle.cbor_grammar.specs.Item.{Chunk}
use Rattle.cbor_grammar.specs.declared.strings.StringKind.{StringKind}
use Rattle.cbor_grammar.specs.Reading.{Counted, Fails, later, read_chunk, read_chunks}
use Rattle.cbor_grammar.proofs.bytes.Steps.{later_none}
use Rattle.cbor_grammar.proofs.turns.ChunkLoops.{onto, more_chunk, no_more_chunk, chunk_fails}
use Rattle.cbor_bytes.proofs.reading.Readings.{fails_stopped, none_before}

-- the chunks before the rest, and the turns that they took
pub record ChunksRead (kind : StringKind) (all rest : List ℕ) : Type 0 where
  pub chunks : List Chunk
  pub turns : ℕ
  pub bound : ℕ
  pub enough : length rest ≤ bound
  pub so_far : later turns (onto chunks (read_chunks bound kind rest)) ≡ read_chunks (length all) kind all

abbrev pub none_read : (kind : StringKind) (all : List ℕ) → ChunksRead kind all all
none_read kind all = record {
  chunks = [];
  turns = 0;
  bound = length all;
  enough = omega arith;
  so_far = later_none (onto [] (read_chunks (length all) kind all)) ∙ none_before (read_chunks (length all) kind all);
}

abbrev pub one_read : (kind : StringKind) (all b : List ℕ) (c : Chunk) (after : List ℕ) → ChunksRead kind all b
    → read_chunk kind b ≡ Ok (Some c, after) → length after < length b → ChunksRead kind all after
one_read kind all b c after r is lt =
    let total : Counted (List Chunk) = read_chunks (length all) kind all in
    let next = more_chunk kind r.chunks r.turns r.bound b c after total is lt r.enough r.so_far in
    record {
      chunks = r.chunks ++ c ∷ [];
      turns = r.turns + 1;
      bound = next.0;
      enough = next.1;
      so_far = next.2;
    }

pub all_read : (kind : StringKind) (all b after : List ℕ) → (r : ChunksRead kind all b)
    → read_chunk kind b ≡ Ok (None, after) → length after < length b
    → (read_chunks (length all) kind all).1 ≡ Ok (r.chunks, after)
all_read kind all b after r is lt = ap (λ (d : Counted (List Chunk)). d.1)
    (no_more_chunk kind r.chunks r.turns r.bound b after (read_chunks (length all) kind all) is lt r.enough r.so_far)

pub not_read : (kind : StringKind) (all b : List ℕ) (e : Error) → ChunksRead kind all b → Fails e (read_chunk kind b)
    → Fails e (read_chunks (length all) kind all).1
not_read kind all b e r fails =
    let total : Counted (List Chunk) = read_chunks (length all) kind all in
    fails_stopped e (r.turns + 1) total (chunk_fails e kind r.chunks r.turns r.bound b total r.enough fails r.so_far)
