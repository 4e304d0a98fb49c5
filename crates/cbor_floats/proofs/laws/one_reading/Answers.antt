use Rattle.cbor_floats.proofs.Readings.{one_reading}
use Rattle.cbor_floats.proofs.laws.one_reading.Goals as goal

pub returns : goal.returns
returns c = one_reading
