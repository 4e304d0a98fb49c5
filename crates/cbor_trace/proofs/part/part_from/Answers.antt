-- The part that is returned is the one that the byte is in.
use Rattle.std.proofs.Common.{◌+◌, ◌-◌, ◌≤◌, length, Some, sym, ap, arith}
use Rattle.cbor_grammar.specs.Reading.{read_item}
use Rattle.cbor_grammar.specs.WellFormed.{levels_left}
use Rattle.cbor_grammar.proofs.bytes.Shorter.{item_shorter}
use Rattle.cbor_trace.specs.Around.{GoesOn, EndsBehind}
use Rattle.cbor_trace.proofs.Parts.{one_part, part_reached, none_reached, step_reached}
use Rattle.cbor_trace.proofs.part.part_from.Goals as goal

pub returns-then-not-goes_on-clause-every : goal.returns-then-not-goes_on-clause-every
returns-then-not-goes_on-clause-every c = λ b head p h.
    let ended : ¬ (GoesOn c.parts.«open» c.parts.rest.now) =
    grind (arith, c.goes_on.ensures, c.if-not-goes_on.true) in
    absurd (none_reached c.args.total c.args.level c.args.bytes.now c.args.at c.args.first b c.parts.«open»
    c.parts.rest.now p head c.parts.invariant ended h)

pub returns-in_default-clause-every : goal.returns-in_default-clause-every
returns-in_default-clause-every c = λ b head p h.
    let on : GoesOn c.parts.«open» c.parts.rest.now = c.goes_on.ensures.0 c.if-not-goes_on.false in
    let short = c.parts.invariant.short in
    let behind : EndsBehind c.args.total (read_item (levels_left (c.args.level + 1))) c.args.at c.parts.rest.now =
    λ i after e. omega (arith, c.in_default.ensures.none i after e, short, c.requires.total) in
    ap (λ q. Some q)
    (one_part c.args.total c.args.level b c.args.at
    (record { «open» = c.parts.«open»; start = c.args.total - length c.parts.rest.now }) p
    (part_reached c.args.total c.args.level c.args.bytes.now c.args.at c.args.first b c.parts.«open» c.parts.rest.now
    (c.args.total - length c.parts.rest.now) c.requires.level head c.parts.invariant on
    (omega (arith, short, c.requires.total)) behind) h)

pub parts-smaller : goal.parts-smaller
parts-smaller c = item_shorter (levels_left (c.args.level + 1)) c.parts.rest.now c.in-Some.ensures.some.0
    c.in-Some.after.now c.in-Some.ensures.some.1

pub parts-preserved : goal.parts-preserved
parts-preserved c =
    let short = c.parts.invariant.short in
    let passed : c.args.total ≤ c.args.at + length c.in-Some.after.now =
    omega (arith, c.in-Some.ensures.some.2, short, c.requires.total, c.parts.invariant.passed) in
    step_reached c.args.total c.args.level c.args.bytes.now c.args.at c.args.first c.parts.«open»
    c.in-Some-after_part.next c.parts.rest.now c.in-Some.after.now c.in-Some.ensures.some.0
    (c.args.total - length c.parts.rest.now) c.parts.invariant c.in-Some.ensures.some.1
    (omega (arith, short, c.requires.total)) passed (sym c.in-Some-after_part.ensures)
