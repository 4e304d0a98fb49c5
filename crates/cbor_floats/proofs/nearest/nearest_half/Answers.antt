use Rattle.std.proofs.Common.{Bool, sym, ap, ◌∙◌}
use Rattle.cbor_floats.specs.Nearest.{with_half_sign}
use Rattle.cbor_floats.proofs.Halves.{nan_is_nan}
use Rattle.cbor_floats.proofs.Rounding.{nearest_nan}
use Rattle.cbor_floats.proofs.nearest.nearest_half.Goals as goal

pub returns-then-is_nan : goal.returns-then-is_nan
returns-then-is_nan c = nearest_nan c.args.x (nan_is_nan c.args.x c.if-is_nan.ensures.value)

pub returns-then-is_sign_negative : goal.returns-then-is_sign_negative
returns-then-is_sign_negative c =
    let size = c.nearest_size-size in
    ap (λ (s : Bool). with_half_sign s size.result) c.if-is_sign_negative.ensures ∙ sym size.ensures.same

pub returns-else-is_sign_negative : goal.returns-else-is_sign_negative
returns-else-is_sign_negative c =
    let size = c.nearest_size-size in
    ap (λ (s : Bool). with_half_sign s size.result) c.if-is_sign_negative.ensures ∙ sym size.ensures.same
