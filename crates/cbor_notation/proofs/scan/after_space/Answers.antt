-- What follows whitespace and the closing byte is what the definition leaves, or one of them is missing.
use Rattle.std.proofs.Common.{sym, ap, ◌∙◌}
use Rattle.std.proofs.lemmas.List.{take_rest}
use Rattle.cbor_notation.specs.mirror.NotationReading.{after_byte}
use Rattle.cbor_notation.proofs.notation.Tokens.{space_missing, space_found}
use Rattle.cbor_notation.proofs.scan.after_space.Goals as goal

pub returns-in_err-spaces-clause-gives : goal.returns-in_err-spaces-clause-gives
returns-in_err-spaces-clause-gives c =
    let text = c.args.text.now in
    let found = c.whitespace_len.ensures in
    rw c.from_residual.ensures
    (sym (space_missing c.args.close text c.whitespace_len.result found c.in_err-spaces.was))

pub returns-clause-gives : goal.returns-clause-gives
returns-clause-gives c =
    let text = c.args.text.now in
    let spaces = c.in_ok-spaces.spaces in
    let found = c.whitespace_len.ensures in
    c.after_byte.ensures.gives ∙ ap (after_byte c.args.close) (take_rest text spaces)
    ∙ sym (space_found c.args.close text c.whitespace_len.result spaces found c.in_ok-spaces.was c.if-spaces-eq0.false)
