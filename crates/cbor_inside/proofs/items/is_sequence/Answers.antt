-- An item more is passed, and where none can be read, none is left of a sequence.
use Rattle.std.proofs.Common.{◌+◌}
use Rattle.cbor_grammar.specs.WellFormed.{levels_left}
use Rattle.cbor_grammar.proofs.bytes.Shorter.{item_shorter}
use Rattle.cbor_inside.proofs.Readings.{leaves_all, leaves_more, all_items}
use Rattle.cbor_inside.proofs.items.is_sequence.Goals as goal

pub items-init : goal.items-init
items-init c = record { leaves = leaves_all (levels_left (c.args.level + 1)) c.args.bytes.now }

pub items-smaller : goal.items-smaller
items-smaller c =
    let p = c.in-Some.ensures.some in
    item_shorter (levels_left (c.args.level + 1)) c.items.rest.now p.0 c.in-Some.after.now p.1

pub items-preserved : goal.items-preserved
items-preserved c =
    let p = c.in-Some.ensures.some in
    record {
      leaves = leaves_more (levels_left (c.args.level + 1)) p.0 c.items.rest.now c.in-Some.after.now c.args.bytes.now
          p.1 c.items.invariant.leaves;
    }

pub returns-in-None : goal.returns-in-None
returns-in-None c =
    let p = c.in-None.ensures.none in
    all_items c.args.level c.args.bytes.now c.items.rest.now p.0 c.is_empty.result c.if-level-gt-DEEPEST.false p.1
    c.items.invariant.leaves c.is_empty.ensures
