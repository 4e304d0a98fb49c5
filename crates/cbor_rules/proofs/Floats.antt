-- `float_violation` is `None` if and only if the float keeps the rules (`KeepsFloat`). If a head that was read is a
-- float, its bits fit its width.
use Rattle.std.proofs.Common.{◌≡◌, ℕ, Bool, true, false, cond, not, ◌&&◌, List, Option, Some, None, Ok, refl, ap, ◌∙◌}
use Rattle.std.proofs.lemmas.Bool.{eqb-true}
use Rattle.std.specs.Prelude.{is_nan}
use Rattle.cbor_grammar.specs.declared.width.FloatWidth.TheVariants as float_width
use Rattle.cbor_grammar.specs.declared.head.ItemHead.{ItemHead}
use Rattle.cbor_grammar.specs.declared.head.ItemHead.TheVariants as item_head
use Rattle.cbor_grammar.specs.Reading.{read_head}
use Rattle.cbor_grammar.proofs.bytes.Heads.{IsBytes, HeadIs, head_takes}
use Rattle.cbor_floats.specs.Preferred.{shorter}
use Rattle.cbor_floats.specs.declared.float.EncodedFloat.{EncodedFloat}
use Rattle.cbor_floats.proofs.Shorter.{none_preferred, preferred_none}
use Rattle.cbor_rules.specs.declared.rules.Rules.{Rules}
use Rattle.cbor_rules.specs.FirstViolation.{long_float, float_violation, integer_float, is_usual_nan, nan_violation}
use Rattle.cbor_rules.specs.FirstViolation.{reduced_violation, violation_or_else}
use Rattle.cbor_rules.specs.Keeps.{IsReduced, KeepsFloat}
use Rattle.cbor_rules.specs.Reduced.{number_of, reduced}
use Rattle.cbor_rules.specs.declared.kind.ViolationKind.TheVariants as kind
use Rattle.cbor_floats.specs.declared.float.EncodedFloat.TheVariants.{Half, Single, Double}
use Rattle.cbor_rules.proofs.Heads.{both_none, tested, untested}
use Rattle.cbor_rules.specs.mirror.Opened.{FloatFits}

long_none : (f : EncodedFloat) (o : Option EncodedFloat) → long_float f o ≡ None → o ≡ None
long_none f None e = refl
long_none f (Some g) e = absurd cc

integer_none : (f : EncodedFloat) (o : Option (Bool × ℕ)) → integer_float f o ≡ None → o ≡ None
integer_none f None e = refl
integer_none f (Some n) e = absurd cc

usual : (f : EncodedFloat) → is_usual_nan f ≡ true → f ≡ Half 0x7e00
usual (Half bits) e = ap Half (eqb-true bits 0x7e00 e)
usual (Single bits) e = absurd cc
usual (Double bits) e = absurd cc

nan_found : (f : EncodedFloat) (n u : Bool) → cond (n && not u) (Some (kind.OtherNan f)) None ≡ None → n ≡ true
    → u ≡ true
nan_found f true true e on = refl
nan_found f true false e on = absurd cc
nan_found f false u e on = absurd cc

nan_again : (f : EncodedFloat) (n u : Bool) → (n ≡ true → u ≡ true)
    → cond (n && not u) (Some (kind.OtherNan f)) None ≡ None
nan_again f false u is = refl
nan_again f true u is = rw (is refl) refl

pub reduced_found : (f : EncodedFloat) → reduced_violation f ≡ None → IsReduced f
reduced_found f e =
    let p = both_none (integer_float f (reduced f)) (nan_violation f) e in
    (integer_none f (reduced f) p.0, λ on. usual f (nan_found f (is_nan (number_of f)) (is_usual_nan f) p.1 on))

reduced_again : (f : EncodedFloat) → IsReduced f → reduced_violation f ≡ None
reduced_again f keeps =
    ap (λ o. violation_or_else (integer_float f o) (nan_violation f)) keeps.0
    ∙ nan_again f (is_nan (number_of f)) (is_usual_nan f) (λ on. ap is_usual_nan (keeps.1 on))

pub float_found : (rules : Rules) (f : EncodedFloat) → float_violation rules f ≡ None → KeepsFloat rules f
float_found rules f e =
    let reduced = cond rules.reduced_floats (reduced_violation f) None in
    let long = cond rules.shortest_floats (long_float f (shorter f)) None in
    let p = both_none reduced long e in (
      λ on. reduced_found f (tested rules.reduced_floats (reduced_violation f) on p.0),
      λ on. none_preferred f
          (long_none f (shorter f) (tested rules.shortest_floats (long_float f (shorter f)) on p.1)),
    )

pub float_again : (rules : Rules) (f : EncodedFloat) → KeepsFloat rules f → float_violation rules f ≡ None
float_again rules f keeps =
    let long = cond rules.shortest_floats (long_float f (shorter f)) None in
    ap (λ k. violation_or_else k long)
    (untested rules.reduced_floats (reduced_violation f) (λ on. reduced_again f (keeps.0 on)))
    ∙ untested rules.shortest_floats (long_float f (shorter f))
    (λ on. ap (long_float f) (preferred_none f (keeps.1 on)))

pub float_fits : (b rest : List ℕ) (h : ItemHead) → IsBytes b → read_head b ≡ Ok (h, rest) → FloatFits h
float_fits b rest h fits e = of_head h (head_takes b rest h fits e).0
  where
    of_head : (h : ItemHead) → HeadIs h b rest → FloatFits h
    of_head (item_head.Float bits float_width.Unknown) is = absurd is
    of_head (item_head.Float bits float_width.Sixteen) is = is.0
    of_head (item_head.Float bits float_width.ThirtyTwo) is = is.0
    of_head (item_head.Float bits float_width.SixtyFour) is = is.0
    of_head (item_head.Integer n w) is = tt
    of_head (item_head.Negative n w) is = tt
    of_head (item_head.String kind a) is = tt
    of_head (item_head.Array a) is = tt
    of_head (item_head.Map a) is = tt
    of_head (item_head.Tag n w) is = tt
    of_head (item_head.Simple n) is = tt
