use Rattle.cbor_floats.proofs.Encodings.{one_encoding}
use Rattle.cbor_floats.proofs.laws.one_encoding.Goals as goal

pub returns : goal.returns
returns c = one_encoding
