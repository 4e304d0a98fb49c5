use Rattle.std.proofs.Common.{◌≡◌, ◌∙◌, ◌*◌, min, ℕ, length, ap, map}
use Rattle.std.specs.String.{string_bytes}
use Rattle.std.specs.Vec.{vec_len}
use Rattle.std.specs.Slice.Iter.{chunks_rest}
use Rattle.std.proofs.lemmas.List.{map_push}
use Rattle.std.proofs.Math.Nat.{min_comm}
use Rattle.cbor_notes.specs.DecodedLines.{decoded_line}
use Rattle.cbor_notes.proofs.bases.DecodedLineLemmas.{shown_more, shown_all}
use Rattle.cbor_notes.proofs.decoded.decoded_lines.Goals as goal

pub loop-piece-preserved : goal.loop-piece-preserved
loop-piece-preserved c =
    let bytes = c.args.bytes.now in
    let piece = c.in-Some.piece.now in
    let size = c.loop-piece.invariant.0 in
    let steps = c.in-Some.ensures.steps in
    let pushed = c.in_ok-push.ensures in
    let long = rw size at steps.1.1 in
    let width : c.min-width.result ≡ min 16 (length bytes) = c.min-width.ensures ∙ min_comm (length bytes) 16 in
    let line = c.in_ok-decoded_line.ensures ∙ ap (λ (n : ℕ). decoded_line (2 * n) piece) width in
    let more = shown_more bytes (chunks_rest c.loop-piece.piece-iterator) piece (chunks_rest c.next.new.self) _
    (map string_bytes c.loop-piece.lines.items)
    (vec_len c.loop-piece.lines) c.loop-piece.invariant.1 steps.1.0 long steps.1.2 line in
    (steps.0 ∙ size, rw (pushed.items, pushed.len, map_push) more)

pub returns : goal.returns
returns c = shown_all c.args.bytes.now _ _ _ c.loop-piece.invariant.1 c.in-None.ensures.steps.1.0
