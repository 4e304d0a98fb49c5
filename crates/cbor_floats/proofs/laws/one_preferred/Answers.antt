use Rattle.cbor_floats.proofs.Shorter.{preferred_once}
use Rattle.cbor_floats.proofs.laws.one_preferred.Goals as goal

pub returns : goal.returns
returns c = preferred_once
