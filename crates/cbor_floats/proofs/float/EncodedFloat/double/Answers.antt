use Rattle.std.proofs.Common.{T, subst, sym, ℕ}
use Rattle.cbor_floats.specs.Value.{IsEncodingOf}
use Rattle.cbor_floats.specs.declared.float.EncodedFloat.TheVariants.{Double}
use Rattle.cbor_floats.proofs.Encodings.{double_encodes}
use Rattle.cbor_floats.proofs.float.EncodedFloat.double.Goals as goal

pub returns-clause-encodes : goal.returns-clause-encodes
returns-clause-encodes c =
    subst (λ (b : ℕ). IsEncodingOf (Double b) c.args.x) (sym c.f64_to_bits_with_nan.ensures)
    (double_encodes c.args.x (subst T (sym c.well_formed.0.1) tt))
