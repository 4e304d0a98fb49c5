use Rattle.cbor_floats.proofs.Readings.{read_back}
use Rattle.cbor_floats.proofs.laws.read_back.Goals as goal

pub returns : goal.returns
returns c = read_back
