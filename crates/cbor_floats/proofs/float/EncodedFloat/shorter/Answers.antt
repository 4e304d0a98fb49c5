-- What the code finds is what the function of the definitions does.
use Rattle.std.proofs.Common.{refl}
use Rattle.cbor_floats.specs.Preferred.{shorter}
use Rattle.cbor_floats.proofs.Shorter.{single_gives, double_gives, finds_same}
use Rattle.cbor_floats.proofs.float.EncodedFloat.shorter.Goals as goal

pub returns-in-Half-clause-is : goal.returns-in-Half-clause-is
unfolding shorter
returns-in-Half-clause-is c = rw c.in-Half.is refl

pub returns-in-Half-clause-preferred : goal.returns-in-Half-clause-preferred
returns-in-Half-clause-preferred c = finds_same c.args.self _ (returns-in-Half-clause-is c)

pub returns-in-Single-clause-is : goal.returns-in-Single-clause-is
returns-in-Single-clause-is c =
    single_gives c.args.self c.in-Single.field-0 c.widened-bits.result c.half_candidate.result c.same_or.result
    c.in-Single.is c.widened-bits.ensures c.half_candidate.ensures c.same_or.ensures

pub returns-in-Single-clause-preferred : goal.returns-in-Single-clause-preferred
returns-in-Single-clause-preferred c = finds_same c.args.self c.same_or.result (returns-in-Single-clause-is c)

pub returns-in-Double-clause-is : goal.returns-in-Double-clause-is
returns-in-Double-clause-is c =
    double_gives c.args.self c.in-Double.field-0 c.widened-bits.result c.half_candidate.result c.single_candidate.result
    c.same_or-in-Double-2.result c.same_or-in-Double.result c.in-Double.is c.widened-bits.ensures
    c.half_candidate.ensures c.single_candidate.ensures c.same_or-in-Double.ensures c.same_or-in-Double-2.ensures

pub returns-in-Double-clause-preferred : goal.returns-in-Double-clause-preferred
returns-in-Double-clause-preferred c =
    finds_same c.args.self c.same_or-in-Double-2.result (returns-in-Double-clause-is c)
