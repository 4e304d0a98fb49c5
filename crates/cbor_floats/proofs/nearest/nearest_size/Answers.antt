use Rattle.std.proofs.Common.{T, sym, subst}
use Rattle.cbor_floats.proofs.Rounding.{nearest_finite, nearest_infinite}
use Rattle.cbor_floats.proofs.nearest.nearest_size.Goals as goal

pub returns-then-is_infinite-clause-same : goal.returns-then-is_infinite-clause-same
returns-then-is_infinite-clause-same c = nearest_infinite c.args.x (sym c.if-is_infinite.ensures.value)

pub returns-else-is_infinite-clause-same : goal.returns-else-is_infinite-clause-same
returns-else-is_infinite-clause-same c =
    let b = c.f64_to_bits_with_nan in
    nearest_finite c.args.x c.abs.result b.result c.rounded_bits.result c.requires (sym c.if-is_infinite.ensures.value)
    (subst T (sym c.abs.type_inv) tt) c.abs.ensures.value b.ensures
    c.rounded_bits.ensures.near c.rounded_bits.ensures.far
