use Rattle.std.proofs.Common.{◌≡◌, map, vec_len}
use Rattle.std.specs.String.{string_bytes}
use Rattle.std.specs.Slice.Iter.{chunks_rest, chunks_size}
use Rattle.cbor_notes.proofs.bases.DecodedLineLemmas.{AreShown}
use Rattle.cbor_notes.proofs.decoded.decoded_lines.Given as goal

abbrev pub invariant-loop-piece : goal.invariant-loop-piece
invariant-loop-piece l =
    (chunks_size l.piece-iterator ≡ 16) × AreShown l.bytes (chunks_rest l.piece-iterator)
    (map string_bytes l.lines.items) (vec_len l.lines)
