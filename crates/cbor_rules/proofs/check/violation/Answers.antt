-- Without an allocator no memory runs out, since no rule takes any.
use Rattle.std.proofs.Common.{arith}
use Rattle.cbor_rules.specs.Keeps.{without_memory}
use Rattle.cbor_rules.proofs.Exactly.{exactly}
use Rattle.cbor_rules.proofs.check.violation.Goals as goal

pub returns-in-Ok-clause-none : goal.returns-in-Ok-clause-none
returns-in-Ok-clause-none c =
    exactly (without_memory c.args.rules) c.args.bytes.now c.in-Ok.found (λ i. omega (arith, c.type_inv.bytes i))
    (rw c.without_memory.ensures at c.in-Ok.ensures.first)
