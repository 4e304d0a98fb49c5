use Rattle.cbor_floats.proofs.Usual.{double_shortest}
use Rattle.cbor_floats.proofs.float.EncodedFloat.shortest.Goals as goal

pub returns-in_default : goal.returns-in_default
returns-in_default c =
    double_shortest c.args.x c.double.result c.double.ensures.width c.double.ensures.encodes c.in_default.ensures
