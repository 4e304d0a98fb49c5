-- The digits or the word are a text of the number.
use Rattle.std.proofs.Common.{sym, ap, ◌∙◌}
use lib.Ieee.{inf}
use Rattle.cbor_floats.proofs.Halves.{nan_is_nan}
use Rattle.cbor_floats.proofs.Decimals.{nan_text, finite_text, infinity_text, minus_infinity_text, is_infinity}
use Rattle.cbor_floats.proofs.decimal.number_text.Goals as goal

pub returns-then-is_nan : goal.returns-then-is_nan
returns-then-is_nan c = nan_text c.args.x (nan_is_nan c.args.x c.if-is_nan.ensures.value)

pub returns-then-is_finite : goal.returns-then-is_finite
returns-then-is_finite c =
    let f = c.format_finite in
    finite_text f.result.now c.args.x f.ensures.plain f.ensures.layout f.ensures.parses
    (sym c.if-is_finite.ensures.value)

pub returns-then-is_sign_negative : goal.returns-then-is_sign_negative
returns-then-is_sign_negative c =
    let x = c.args.x in
    let e = is_infinity x (sym c.if-is_nan.ensures.value) (sym c.if-is_finite.ensures.value)
    ∙ ap inf (sym c.if-is_sign_negative.ensures) in
    minus_infinity_text x e (sym c.if-is_finite.ensures.value)

pub returns-else-is_sign_negative : goal.returns-else-is_sign_negative
returns-else-is_sign_negative c =
    let x = c.args.x in
    let e = is_infinity x (sym c.if-is_nan.ensures.value) (sym c.if-is_finite.ensures.value)
    ∙ ap inf (sym c.if-is_sign_negative.ensures) in
    infinity_text x e (sym c.if-is_finite.ensures.value)
