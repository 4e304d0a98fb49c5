-- A text without escapes that ends a string is the whole string to the definition, too.
use Rattle.std.proofs.Common.{sym, ◌∙◌}
use Rattle.cbor_notation.proofs.notation.OnePiece.{plain_text}
use Rattle.cbor_notation.proofs.notation.sound.Steps.{after_byte_is}
use Rattle.cbor_diag.proofs.parse.notation.strings.read_plain_text.Goals as goal

pub returns-then-ends_string-clause-gives : goal.returns-then-ends_string-clause-gives
returns-then-ends_string-clause-gives c = λ read.
    let text = c.args.text.now in
    let inner = c.in_ok-inner.inner.now in
    plain_text read text inner c.in_ok-content.content.now c.in_ok-content.rest.now
    (after_byte_is 34 text inner (sym c.in_ok-inner.ensures.gives)) c.in_ok-content.ensures.gives
    (sym c.ends_string.ensures ∙ c.if-ends_string.true)
