-- The text of hex with comments: each item that it is, and each error that it has.
use Rattle.std.proofs.Common.{◌∙◌}
use Rattle.std.proofs.lemmas.Result.{err_from_is_err_and}
use Rattle.cbor_grammar.proofs.hex.Digits.{digits_want_memory, digits_refused, bytes_refused}
use Rattle.cbor_tokens.specs.Uncommented.{uncommented}
use Rattle.cbor_notation_writer.proofs.outermost.hex_text.Goals as goal

pub returns-in_err-bytes-clause-every_item : goal.returns-in_err-bytes-clause-every_item
returns-in_err-bytes-clause-every_item c = λ i w.
    let p = err_from_is_err_and c.from_residual-in_err-bytes.result c.from_residual-in_err-bytes.ensures.1 in
    let refused = rw c.in_ok-digits.ensures at c.in_err-bytes.ensures.refused in
    rw p.1 (p.2 ∙ digits_want_memory (uncommented c.args.hex.now) w.0 c.in_err-bytes.field-0.0 refused w.1)

pub returns-in_err-bytes-clause-every_refusal : goal.returns-in_err-bytes-clause-every_refusal
returns-in_err-bytes-clause-every_refusal c = λ e w.
    let p = err_from_is_err_and c.from_residual-in_err-bytes.result c.from_residual-in_err-bytes.ensures.1 in
    let refused = rw c.in_ok-digits.ensures at c.in_err-bytes.ensures.refused in
    rw (p.1, p.2) (digits_refused c.args.hex.now c.in_err-bytes.field-0.0 e refused w)

pub returns-clause-every_refusal : goal.returns-clause-every_refusal
returns-clause-every_refusal c =
    let digits = c.in_ok-digits.ensures in
    bytes_refused c.args.hex.now c.in_ok-bytes.bytes.items c.whole_text.result
    (rw digits at c.in_ok-bytes.ensures.bytes) (rw c.deref.ensures.value at c.whole_text.ensures.every_refusal)
