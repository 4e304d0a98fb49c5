-- A content without escapes is what is between the quotes.
use Rattle.std.proofs.Common.{sym, ◌∙◌}
use Rattle.cbor_notation.proofs.notation.OnePiece.{plain}
use Rattle.cbor_notation.proofs.notation.sound.Steps.{after_byte_is}
use Rattle.cbor_notation.proofs.content.read_plain.Goals as goal

pub returns-clause-gives : goal.returns-clause-gives
returns-clause-gives c =
    let closed = after_byte_is 34 c.split_at.result.1.now c.in_ok-after.after.now
    (sym c.in_ok-after.ensures.gives) in
    plain c.args.text.now c.split_at.result.0.now c.in_ok-after.after.now c.plain_len.result c.in_ok-end.end
    c.plain_len.ensures c.in_ok-end.was c.split_at.ensures.front (sym c.split_at.ensures.back ∙ closed)
