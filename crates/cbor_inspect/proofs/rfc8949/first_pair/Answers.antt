use Rattle.std.proofs.Common.{arith}
use Rattle.cbor_inspect.proofs.Rfc8949Lemmas.{none_at_end}
use Rattle.cbor_inspect.proofs.rfc8949.first_pair.Goals as goal

pub returns-clause-none : goal.returns-clause-none
returns-clause-none c = c.bytes.invariant (none_at_end c.args.bytes.now c.bytes.at (omega arith))
