use Rattle.std.proofs.Common.{arith}
use Rattle.cbor_bytes.proofs.bytes.StrictHeads.{with_none}
use Rattle.cbor_bytes.proofs.strict.has_strict_heads.Goals as goal

pub returns : goal.returns
returns c = λ t.
    c.heads.invariant (with_none c.heads.rest.now (grind (arith, c.is_empty.ensures, c.heads-test.false)))
