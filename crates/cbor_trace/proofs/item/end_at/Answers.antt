-- The item ends where the rest begins that is left after it.
use Rattle.std.proofs.Common.{Some, sym, ap, ◌∙◌, arith}
use Rattle.cbor_grammar.specs.Reading.{read_item}
use Rattle.cbor_grammar.specs.WellFormed.{levels_left}
use Rattle.cbor_grammar.proofs.bytes.Shorter.{item_shorter}
use Rattle.cbor_trace.proofs.Ends.{no_deeper, no_end, one_end, that_end}
use Rattle.cbor_trace.proofs.item.end_at.Goals as goal

pub returns-then-spot-gt-DEEPEST-clause-every_end : goal.returns-then-spot-gt-DEEPEST-clause-every_end
returns-then-spot-gt-DEEPEST-clause-every_end c = λ end one h.
    absurd (omega (arith, no_deeper c.args.bytes.now c.args.spot end h, c.if-spot-gt-DEEPEST.true))

pub returns-in_default-clause-every_end : goal.returns-in_default-clause-every_end
returns-in_default-clause-every_end c = λ end one h.
    absurd (no_end c.args.bytes.now c.args.spot end c.in_default.ensures.none.0
    (ap (read_item (levels_left c.args.spot.level)) (sym c.split_at.ensures.back) ∙ c.in_default.ensures.none.1) h)

pub overflow_sub-result : goal.overflow_sub-result
overflow_sub-result c =
    omega (
      arith,
      c.split_at.ensures.back_len,
      item_shorter (levels_left c.args.spot.level) c.split_at.result.1.now
          c.in-Some.ensures.some.0 c.in-Some.rest.now c.in-Some.ensures.some.1,
    )

pub returns-clause-end : goal.returns-clause-end
returns-clause-end c =
    that_end c.args.bytes.now c.args.spot c.in-Some.ensures.some.0 c.in-Some.rest.now
    (λ i. omega (arith, c.type_inv.bytes i)) (omega (arith, c.if-spot-bytes.false))
    (omega (arith, c.if-spot-gt-DEEPEST.false))
    (ap (read_item (levels_left c.args.spot.level)) (sym c.split_at.ensures.back) ∙ c.in-Some.ensures.some.1)

pub returns-clause-every_end : goal.returns-clause-every_end
returns-clause-every_end c = λ end one h.
    ap (λ e. Some e) (one_end c.args.bytes.now c.args.spot end c.in-Some.ensures.some.0 c.in-Some.rest.now
    (ap (read_item (levels_left c.args.spot.level)) (sym c.split_at.ensures.back) ∙ c.in-Some.ensures.some.1) h)
