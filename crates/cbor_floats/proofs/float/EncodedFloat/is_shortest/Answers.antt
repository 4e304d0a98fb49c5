use Rattle.cbor_floats.proofs.Usual.{shortest_single, shortest_double, none_is}
use Rattle.cbor_floats.proofs.float.EncodedFloat.is_shortest.Goals as goal

pub returns-in-Single : goal.returns-in-Single
returns-in-Single c =
    shortest_single c.args.self c.in-Single.field-0 c.value.result c.half_of.result c.is_none.result
    c.in-Single.is c.value.ensures (c.is_usual.ensures.0 c.if-is_usual.true) c.half_of.ensures
    (none_is c.half_of.result c.is_none.result c.is_none.ensures)

pub returns-in-Double : goal.returns-in-Double
returns-in-Double c =
    let x = c.value-in-Double in
    let none = c.is_none-in-Double in
    shortest_double c.args.self c.in-Double.field-0 x.result c.single_of.result none.result
    c.in-Double.is x.ensures (c.is_usual.ensures.0 c.if-is_usual.true) c.single_of.ensures
    (none_is c.single_of.result none.result none.ensures)
