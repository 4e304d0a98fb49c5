use Rattle.std.proofs.Common.{◌≡◌, ◌++◌, ◌+◌, length, sym, ap, ◌∙◌, arith}
use Rattle.std.specs.String.{string_bytes}
use Rattle.std.proofs.lemmas.List.{length-append, take-append-drop}
use Rattle.cbor_tokens.proofs.texts.HexLemmas.{hex_more, hex_end}
use Rattle.cbor_tokens.proofs.hex_digits.push_hex.Goals as goal

pub pieces-preserved : goal.pieces-preserved
pieces-preserved c =
    let s = c.split_at in
    let parts : s.result.0.now ++ s.result.1.now ≡ c.pieces.rest.now =
    rw (s.ensures.front, s.ensures.back) (take-append-drop c.min.result c.pieces.rest.now) in
    let long : length s.result.0.now + length s.result.1.now ≡ length c.pieces.rest.now =
    sym (length-append s.result.0.now s.result.1.now) ∙ ap length parts in
    let more = c.in_ok-push_hex_piece.ensures in
    record {
      whole = rw more.text (hex_more (string_bytes c.pieces.text) s.result.0.now s.result.1.now c.pieces.rest.now _
          parts c.pieces.invariant.whole);
      room = omega (arith, more.len, more.capacity, c.pieces.invariant.room);
    }

pub returns-clause-text : goal.returns-clause-text
returns-clause-text c =
    hex_end (string_bytes c.pieces.text) c.pieces.rest.now _ (sym c.is_empty.ensures ∙ c.pieces-test.false)
    c.pieces.invariant.whole
