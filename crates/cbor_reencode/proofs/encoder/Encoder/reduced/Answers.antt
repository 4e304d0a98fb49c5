-- What is wrong with a float says what is written for it.
use Rattle.std.proofs.Common.{◌≡◌, Bool, true, false, not, Some, refl, sym, ap, ◌∙◌}
use Rattle.cbor_reencode.proofs.Reductions.{chosen_number, integer_number, nan_number, found_integer, found_nan}
use Rattle.cbor_reencode.specs.Reduction.{sized}
use Rattle.cbor_reencode.proofs.encoder.Encoder.reduced.Goals as goal

is_on : (s : Bool) → not s ≡ false → s ≡ true
is_on true e = refl
is_on false e = absurd cc

pub returns-in-IntegerFloat : goal.returns-in-IntegerFloat
returns-in-IntegerFloat c =
    let f = c.args.float in
    let h = c.in-IntegerFloat in
    let n = found_integer f h.float h.negative h.size (sym c.reduced_violation.ensures ∙ c.in-Some.is ∙ ap Some h.is) in
    integer_number c.args.self.rules f c.sized.result n.number
    (is_on c.args.self.rules.reduced_floats c.if-not-self.false) n.is
    (c.sized.ensures.is ∙ ap (λ (b : Bool). sized b h.size) (sym n.sign) ∙ ap (λ k. sized n.number.0 k) (sym n.size_is))
    c.sized.ensures.fits

pub returns-in_default-kind : goal.returns-in_default-kind
returns-in_default-kind c =
    let f = c.args.float in
    let n = found_nan f c.in-Some.kind (sym c.reduced_violation.ensures ∙ c.in-Some.is)
    c.in_default-kind.not-IntegerFloat in
    nan_number c.args.self.rules f (is_on c.args.self.rules.reduced_floats c.if-not-self.false) n.0 n.1

pub returns-in_default : goal.returns-in_default
returns-in_default c =
    chosen_number c.args.self.rules c.args.float c.float-in_default.result c.float-in_default.ensures
