-- The content up to the closing quote is that of the definition, or there is none.
use Rattle.std.proofs.Common.{Ok, false, ap, ◌∙◌, sym}
use Rattle.std.proofs.lemmas.List.{take_rest}
use Rattle.cbor_tokens.specs.TokenReading.{unquoted}
use Rattle.cbor_notation.specs.mirror.NotationReading.{or_refused}
use Rattle.cbor_notation.proofs.content.read_quoted.Goals as goal

pub returns-in-Some-clause-gives : goal.returns-in-Some-clause-gives
returns-in-Some-clause-gives c =
    let found = rw c.in-Some.is at c.in_ok-content.ensures.found in
    ap (λ text. or_refused (unquoted c.args.quote false text)) (sym c.rest-rest.ensures) ∙ ap or_refused found
    ∙ ap (λ rest. Ok (c.in-Some.content.items, rest))
    (sym (take_rest c.rest-rest.result.now c.in-Some.end) ∙ sym c.new.ensures)

pub returns-in-None-clause-gives : goal.returns-in-None-clause-gives
returns-in-None-clause-gives c =
    let none = rw c.in-None.is at c.in_ok-content.ensures.none in
    ap (λ text. or_refused (unquoted c.args.quote false text)) (sym c.rest-rest.ensures) ∙ ap or_refused none
