use Rattle.std.proofs.Common.{T, ℕ, refl, true≢false, sym, ◌∙◌, subst}
use Rattle.cbor_floats.proofs.Encodings.{single_encodes, single_found}
use Rattle.cbor_floats.specs.Value.{IsEncodingOf}
use Rattle.cbor_floats.specs.declared.float.EncodedFloat.TheVariants.{Single}
use Rattle.cbor_floats.proofs.single.single_of.Goals as goal

pub returns-then-same_number : goal.returns-then-same_number
returns-then-same_number c =
    let e = single_encodes c.args.x c.nearest_f64_to_f32_with_nan-nearest.result
    (subst T (sym c.nearest_f64_to_f32_with_nan-nearest.type_inv) tt)
    (sym c.f32_to_f64_with_nan.ensures ∙ c.if-same_number.ensures.0 refl) in
    subst (λ (b : ℕ). IsEncodingOf (Single b) c.args.x) (sym c.f32_to_bits_with_nan.ensures) e

pub returns-else-same_number : goal.returns-else-same_number
returns-else-same_number c = λ bits h.
    let e = single_found c.args.x bits h in
    true≢false (sym (c.if-same_number.ensures.1 (c.f32_to_f64_with_nan.ensures
    ∙ c.nearest_f64_to_f32_with_nan-nearest.ensures ∙ e)))
