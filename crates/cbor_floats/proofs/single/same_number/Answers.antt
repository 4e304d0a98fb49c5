use Rattle.std.proofs.Common.{T, subst, sym, ap, ◌∙◌, eqb-true, eq-eqb}
use lib.Ieee.{binary64, to_bits}
use Rattle.cbor_floats.proofs.Values.{same_bits}
use Rattle.cbor_floats.proofs.single.same_number.Goals as goal

pub returns : goal.returns
returns c = (
  λ e. same_bits binary64 c.args.x c.args.y (subst T (sym c.well_formed.0.1) tt) (subst T (sym c.well_formed.1.0.1) tt)
      (sym c.f64_to_bits_with_nan.ensures ∙ eqb-true _ _ e ∙ c.f64_to_bits_with_nan-2.ensures),
  λ e. eq-eqb _ _ (c.f64_to_bits_with_nan.ensures ∙ ap (to_bits binary64) e ∙ sym c.f64_to_bits_with_nan-2.ensures),
)
