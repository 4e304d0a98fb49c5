-- What is left of the budget is what the items of the sequence leave, whatever follows them.
use Rattle.std.proofs.Common.{◌-◌}
use Rattle.cbor_notation_writer.proofs.straight.SequencesAhead.{nothing_yet, one_more_item, item_takes_rest}
use Rattle.cbor_notation_writer.proofs.straight.SequencesAhead.{no_more_items}
use Rattle.cbor_notation_writer.proofs.ahead.left_after_sequence.Goals as goal

pub items-init : goal.items-init
items-init c = nothing_yet c.args.budget (129 - c.args.level) c.args.bytes.now

pub returns-in_default : goal.returns-in_default
returns-in_default c =
    let none = c.in_default.ensures.none in
    no_more_items c.args.budget (129 - c.args.level) c.args.bytes.now c.items.left c.items.rest.now none.0
    c.items.invariant none.1

pub returns-in_default-item_ahead : goal.returns-in_default-item_ahead
returns-in_default-item_ahead c =
    let some = c.in-Some.ensures.some in
    item_takes_rest c.args.budget (129 - c.args.level) c.args.bytes.now c.items.left c.items.rest.now some.0
    c.in-Some.after.now c.items.invariant some.1 c.in_default-item_ahead.ensures.leaves

pub items-preserved : goal.items-preserved
items-preserved c =
    let some = c.in-Some.ensures.some in
    rw c.saturating_sub-left.ensures (one_more_item c.args.budget (129 - c.args.level) c.args.bytes.now c.items.left
    c.items.rest.now some.0 c.in-Some.after.now c.in-Some-item_ahead.item c.items.invariant some.1
    c.in-Some-item_ahead.ensures.leaves)
