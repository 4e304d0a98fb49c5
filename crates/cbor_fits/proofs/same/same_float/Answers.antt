-- Bits that are written for a float are read back as it.
use Rattle.std.proofs.Common.{◌≡◌, T, subst, sym, ap, ◌∙◌}
use Rattle.std.proofs.lemmas.Bool.{eqb-true}
use lib.Ieee.{binary64, of_bits, to_bits}
use lib.Ieee.Bits.{of_bits-to_bits}
use Rattle.cbor_fits.proofs.same.same_float.Goals as goal

pub returns : goal.returns
returns c = λ e.
    let first : of_bits binary64 (to_bits binary64 c.args.first) ≡ c.args.first =
    of_bits-to_bits binary64 c.args.first (subst T (sym c.well_formed.0.1) tt) in
    let second : of_bits binary64 (to_bits binary64 c.args.second) ≡ c.args.second =
    of_bits-to_bits binary64 c.args.second (subst T (sym c.well_formed.1.0.1) tt) in
    let bits : c.f64_to_bits_with_nan.result ≡ c.f64_to_bits_with_nan-2.result = eqb-true _ _ e in
    sym first ∙ (ap (of_bits binary64) (sym c.f64_to_bits_with_nan.ensures
    ∙ (bits ∙ c.f64_to_bits_with_nan-2.ensures)) ∙ second)
