use Rattle.std.proofs.Common.{◌≡◌, ◌++◌}
use Rattle.std.proofs.Transfers.{starts_with_of_append, starts_with_trans}
use Rattle.std.specs.String.{string_bytes}
use Rattle.std.proofs.lemmas.List.{take-append-drop}
use Rattle.cbor_notes.proofs.texts.Unescaped.{escaped_more}
use Rattle.cbor_notes.proofs.text.write_quoted_bytes.Goals as goal

pub pieces-preserved : goal.pieces-preserved
pieces-preserved c =
    let s = c.split_at in
    let parts : s.result.0.now ++ s.result.1.now ≡ c.pieces.rest.now =
    rw (s.ensures.front, s.ensures.back) (take-append-drop c.min.result c.pieces.rest.now) in
    let more = c.in_ok-push_escaped_bytes.ensures.text in
    record {
      whole = rw more (escaped_more (string_bytes c.pieces.text) s.result.0.now s.result.1.now c.pieces.rest.now _
          parts c.pieces.invariant.whole);
      front = starts_with_trans _ (string_bytes c.pieces.text) _
          (starts_with_of_append _ (string_bytes c.pieces.text) _ more) c.pieces.invariant.front;
    }
