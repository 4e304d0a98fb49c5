use Rattle.cbor_floats.proofs.Readings.{one_shortest}
use Rattle.cbor_floats.proofs.laws.one_shortest.Goals as goal

pub returns : goal.returns
returns c = one_shortest
