-- Hex digits decoded in place give what they give gathered.
use Rattle.std.proofs.Common.{Ok, true, get_or, sym, ap, ◌∙◌, arith}
use Rattle.std.proofs.lemmas.Bool.{eqb-true}
use Rattle.cbor_tokens.specs.HexDigits.{base16_of}
use Rattle.cbor_notation.specs.mirror.NotationReading.{read_decoded}
use Rattle.cbor_notation.proofs.notation.PlainDigits.{plain_digits}
use Rattle.cbor_notation.proofs.content.read_base16.Goals as goal

pub returns-in-Some-2-clause-gives : goal.returns-in-Some-2-clause-gives
returns-in-Some-2-clause-gives c =
    let text = c.rest-rest.result.now in
    let end = c.in-Some.end in
    let found = c.in-Some.ensures in
    let decoded = rw c.in-Some-2.is at c.in_ok-bytes.ensures.gives in
    ap (read_decoded true base16_of) (sym c.rest-rest.ensures) ∙ plain_digits text c.in-Some-2.bytes.items end (omega
    (arith, found.0.high))
    (eqb-true (get_or text end 0) 39 found.1) (sym decoded)
    ∙ ap (λ rest. Ok (c.in-Some-2.bytes.items, rest)) (sym c.new.ensures)
