use Rattle.std.proofs.Common.{arith, subst, sym, ℕ, ◌<◌}
use Rattle.cbor_floats.proofs.Halves.{units_shifted}
use Rattle.cbor_floats.proofs.half.half_units.Goals as goal

pub returns-else-exponent-eq0-clause-same : goal.returns-else-exponent-eq0-clause-same
returns-else-exponent-eq0-clause-same c = (units_shifted c.args.exponent c.args.fraction
    (omega arith) c.requires.0 c.requires.1).0

pub returns-else-exponent-eq0-clause-few : goal.returns-else-exponent-eq0-clause-few
returns-else-exponent-eq0-clause-few c =
    let u = units_shifted c.args.exponent c.args.fraction (omega arith) c.requires.0 c.requires.1 in
    subst (λ (z : ℕ). z < 2199023255552) (sym u.0) u.1
