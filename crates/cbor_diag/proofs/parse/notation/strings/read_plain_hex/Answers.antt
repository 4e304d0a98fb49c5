-- Hex digits that end a string are the whole string to the definition, too.
use Rattle.std.proofs.Common.{◌+◌, ◌-◌, take, drop, length, get_or, sym, ◌∙◌, codes, arith}
use Rattle.std.proofs.lemmas.Bool.{eqb-true}
use Rattle.cbor_notation.proofs.notation.OnePiece.{plain_hex}
use Rattle.cbor_notation.proofs.notation.PlainDigits.{plain_digits}
use Rattle.cbor_notation.proofs.notation.sound.Steps.{after_word_is}
use Rattle.cbor_diag.proofs.parse.notation.strings.read_plain_hex.Goals as goal

pub returns-then-ends_string-clause-gives : goal.returns-then-ends_string-clause-gives
returns-then-ends_string-clause-gives c = λ read bytes is.
    let text = c.args.text.now in
    let inner = c.in_ok-inner.inner.now in
    let end = c.in_ok-end.end in
    let rest = take (length inner - (end + 1)) (drop (end + 1) inner) in
    let found = c.in_ok-end.ensures in
    let front = after_word_is (codes "h'") text inner (sym c.in_ok-inner.ensures.gives) in
    let digits = plain_digits inner bytes end (omega (arith, found.0.high)) (eqb-true (get_or inner end 0) 39 found.1)
    is in
    plain_hex read text inner bytes rest front digits (sym c.ends_string.ensures ∙ c.if-ends_string.true)
