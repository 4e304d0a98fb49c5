use Rattle.std.proofs.Common.{refl, sym, ◌∙◌, true≢false}
use Rattle.cbor_floats.proofs.Rounding.{half_encodes, half_lacks}
use Rattle.cbor_floats.proofs.nearest.half_of.Goals as goal

pub returns-then-same_number : goal.returns-then-same_number
returns-then-same_number c =
    let n = c.nearest_half-bits in
    half_encodes c.args.x n.result n.type_inv (sym c.half_value.ensures ∙ c.if-same_number.ensures.0 refl) n.ensures

pub returns-else-same_number : goal.returns-else-same_number
returns-else-same_number c = λ other h.
    half_lacks c.args.x c.nearest_half-bits.result other c.nearest_half-bits.ensures
    (λ e. true≢false (sym (c.if-same_number.ensures.1 (c.half_value.ensures ∙ e)))) h
