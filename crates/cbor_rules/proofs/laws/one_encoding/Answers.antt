use Rattle.cbor_rules.proofs.Deterministic.{one_encoding}
use Rattle.cbor_rules.proofs.laws.one_encoding.Goals as goal

pub returns : goal.returns
returns c = one_encoding
