-- A container is read from its head on.
use Rattle.std.proofs.Common.{length, drop, Ok, sym, ap, ◌∙◌, arith}
use Rattle.cbor_grammar.specs.Reading.{read_head}
use Rattle.cbor_trace.proofs.Parts.{after_head, opened_head}
use Rattle.cbor_trace.proofs.part.part_at.Goals as goal

pub returns-then-at-bytes-clause-every_part : goal.returns-then-at-bytes-clause-every_part
returns-then-at-bytes-clause-every_part c = λ p h.
    let gives = ap read_head (sym c.split_at.ensures.back) ∙ c.in-Ok.ensures.gives in
    let passed = after_head (length c.args.bytes.now) c.args.spot.level (drop c.args.spot.start c.args.bytes.now)
    c.args.at c.in-Ok.head c.in-Ok.rest.now p gives h.1 in
    absurd (omega (arith, passed, c.if-at-bytes.true))

pub returns-clause-every_part : goal.returns-clause-every_part
returns-clause-every_part c = λ p h.
    let head = opened_head c.in-Ok.head c.in_ok-first.first (sym c.in_ok-first.ensures) in
    c.part_from.ensures.every (drop c.args.spot.start c.args.bytes.now)
    (ap read_head (sym c.split_at.ensures.back) ∙ c.in-Ok.ensures.gives
    ∙ ap (λ x. Ok (x, c.in-Ok.rest.now)) (sym head)) p h.1
