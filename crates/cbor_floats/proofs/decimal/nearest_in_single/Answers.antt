use Rattle.std.proofs.Common.{T, refl, sym, ap, subst, ◌∙◌}
use Rattle.std.specs.Float.{float_is_finite}
use Rattle.cbor_floats.proofs.Decimals.{nearest_encodes}
use Rattle.cbor_floats.proofs.decimal.nearest_in_single.Goals as goal

pub returns-then-is_finite : goal.returns-then-is_finite
returns-then-is_finite c =
    let n = c.nearest_single-nearest in (
      refl,
      nearest_encodes n.result _ c.f32_to_bits_with_nan.result
          (subst T (sym n.type_inv) tt) c.f32_to_bits_with_nan.ensures n.ensures,
      ap float_is_finite (sym n.ensures)
          ∙ sym c.if-is_finite.ensures.value,
    )
