use Rattle.std.proofs.Common.{ap, ◌∙◌, arith}
use lib.Ieee.{is_nan}
use Rattle.cbor_floats.specs.declared.float.EncodedFloat.TheVariants.{Half, Single, Double}
use Rattle.cbor_floats.proofs.Usual.{usual_unless}
use Rattle.cbor_floats.proofs.float.EncodedFloat.is_usual.Goals as goal

pub returns-else-bits-eq32256 : goal.returns-else-bits-eq32256
returns-else-bits-eq32256 c =
    let n = c.is_nan in
    usual_unless c.args.self (Half c.in-Half.bits) n.result c.in-Half.is (omega arith)
    (n.ensures.value ∙ ap is_nan c.half_value.ensures) c.if-bits-eq32256.false

pub returns-else-bits-eq2143289344 : goal.returns-else-bits-eq2143289344
returns-else-bits-eq2143289344 c =
    let n = c.is_nan-else-bits-eq2143289344 in
    usual_unless c.args.self (Single c.in-Single.bits) n.result c.in-Single.is (omega arith)
    (n.ensures.value ∙ ap is_nan c.single_value.ensures) c.if-bits-eq2143289344.false

pub returns-else-bits-eq9221120237041090560 : goal.returns-else-bits-eq9221120237041090560
returns-else-bits-eq9221120237041090560 c =
    let n = c.is_nan-else-bits-eq9221120237041090560 in
    usual_unless c.args.self (Double c.in-Double.bits) n.result c.in-Double.is (omega arith)
    (n.ensures.value ∙ ap is_nan c.f64_from_bits_with_nan.ensures) c.if-bits-eq9221120237041090560.false
