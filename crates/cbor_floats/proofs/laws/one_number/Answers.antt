use Rattle.cbor_floats.proofs.Decimals.{one_number}
use Rattle.cbor_floats.proofs.laws.one_number.Goals as goal

pub returns : goal.returns
returns c = one_number
