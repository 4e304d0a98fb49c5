use Rattle.std.proofs.Common.{arith}
use Rattle.cbor_floats.proofs.Halves.{of_infinity, of_nan}
use Rattle.cbor_floats.proofs.half.value_of_fields.Goals as goal

pub returns-then-fraction-eq0 : goal.returns-then-fraction-eq0
returns-then-fraction-eq0 c = of_infinity c.args.exponent c.args.fraction (omega arith) c.if-fraction-eq0.true

pub returns-else-fraction-eq0 : goal.returns-else-fraction-eq0
returns-else-fraction-eq0 c = of_nan c.args.exponent c.args.fraction (omega arith) c.if-fraction-eq0.false
