-- One item is read, and nothing is left of the bytes.
use Rattle.cbor_inside.proofs.Readings.{one_read, none_read}
use Rattle.cbor_inside.proofs.items.is_item.Goals as goal

pub returns-in-Some : goal.returns-in-Some
returns-in-Some c =
    let p = c.in-Some.ensures.some in
    one_read c.args.level c.args.bytes.now c.in-Some.rest.now p.0 c.is_empty.result c.if-level-gt-DEEPEST.false p.1
    c.is_empty.ensures

pub returns-in-None : goal.returns-in-None
returns-in-None c =
    let p = c.in-None.ensures.none in
    none_read c.args.level c.args.bytes.now p.0 c.if-level-gt-DEEPEST.false p.1
