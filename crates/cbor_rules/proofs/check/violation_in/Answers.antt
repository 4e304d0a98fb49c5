-- There is no violation if and only if the rules are kept.
use Rattle.std.proofs.Common.{arith}
use Rattle.cbor_rules.proofs.Exactly.{exactly_ok}
use Rattle.cbor_rules.proofs.check.violation_in.Goals as goal

pub returns-clause-none : goal.returns-clause-none
returns-clause-none c =
    exactly_ok c.args.rules c.args.bytes.now c.first.result (λ i. omega (arith, c.type_inv.bytes i))
    c.first.ensures.first
