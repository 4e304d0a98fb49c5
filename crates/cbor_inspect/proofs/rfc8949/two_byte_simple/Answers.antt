use Rattle.cbor_inspect.proofs.Rfc8949Lemmas.{plain_is_8949}
use Rattle.cbor_inspect.proofs.rfc8949.two_byte_simple.Goals as goal

pub returns-in_default-clause-none : goal.returns-in_default-clause-none
returns-in_default-clause-none c = λ i is. plain_is_8949 c.args.bytes.now i is c.in_default.ensures.none

pub returns-in_default-violation-clause-none : goal.returns-in_default-violation-clause-none
returns-in_default-violation-clause-none c = λ i is. (i, (is, c.violation.ensures.none.0 cc))
