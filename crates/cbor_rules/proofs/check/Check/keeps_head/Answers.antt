-- The bits of a float that was read fit its width.
use Rattle.std.proofs.Common.{arith}
use Rattle.cbor_rules.proofs.Floats.{float_fits}
use Rattle.cbor_rules.proofs.check.Check.keeps_head.Goals as goal

pub head_violation-requires : goal.head_violation-requires
head_violation-requires c =
    float_fits c.args.bytes.now c.in-Ok.rest.now c.in-Ok.head (λ i. omega (arith, c.type_inv.bytes i))
    c.in-Ok.ensures.gives
