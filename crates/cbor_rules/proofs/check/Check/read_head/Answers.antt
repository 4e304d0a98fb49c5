-- The bits of a float that was read fit its width.
use Rattle.std.proofs.Common.{arith}
use Rattle.cbor_rules.proofs.Floats.{float_fits}
use Rattle.cbor_rules.proofs.check.Check.read_head.Goals as goal

pub are_clearly_kept-requires : goal.are_clearly_kept-requires
are_clearly_kept-requires c =
    float_fits c.args.bytes.now c.in-Ok.read.1.now c.in-Ok.read.0 (λ i. omega (arith, c.type_inv.bytes i))
    c.in-Ok.ensures.gives
