-- For `Encoder::reduced`: a float is written as the same number by the rules (`IsNumber`), whether in a chosen width
-- or, with `reduced_floats`, as the integer that it is or as f97e00 for a NaN. If `reduced_violation` finds an integer,
-- the float is that integer; if it finds anything else, the float is a NaN.
use Rattle.std.proofs.Common.{◌≡◌, ◌≢◌, ℕ, ◌-◌, Bool, true, false, cond, ltb, not, ◌&&◌, Option, Some, None}
use Rattle.std.proofs.Common.{refl, sym, ap, ◌∙◌, arith}
use lib.Ieee.{is_nan, of_bits}
use Rattle.std.specs.Prelude.{from_bits}
use Rattle.std.specs.Float.Ieee.{binary64}
use Rattle.cbor_grammar.specs.declared.width.IntegerWidth.TheVariants as width
use Rattle.cbor_grammar.specs.declared.width.FloatWidth.TheVariants as float_width
use Rattle.cbor_grammar.specs.Item.{Atom, integer, negative, float}
use Rattle.cbor_floats.specs.Value.{half_value}
use Rattle.cbor_floats.specs.Preferred.{widened}
use Rattle.cbor_floats.specs.declared.float.EncodedFloat.{EncodedFloat}
use Rattle.cbor_floats.specs.declared.float.EncodedFloat.TheVariants.{Half, Single, Double}
use Rattle.cbor_rules.specs.declared.rules.Rules.{Rules}
use Rattle.cbor_rules.specs.declared.kind.ViolationKind.{ViolationKind}
use Rattle.cbor_rules.specs.declared.kind.ViolationKind.TheVariants as kind
use Rattle.cbor_rules.specs.FirstViolation.{integer_float, nan_violation, reduced_violation, violation_or_else}
use Rattle.cbor_rules.specs.FirstViolation.{is_usual_nan}
use Rattle.cbor_rules.specs.Reduced.{integer_of, number_of, reduced}
use Rattle.cbor_rules.specs.Same.{said}
use Rattle.cbor_reencode.specs.declared.numbers.Reduced.{Reduced}
use Rattle.cbor_reencode.specs.declared.numbers.Reduced.TheVariants as code
use Rattle.cbor_reencode.specs.Reduction.{sized, sized_or, reduced_float, reduced_atom}
use Rattle.cbor_reencode.specs.mirror.Chosen.{IsChosen}
use Rattle.cbor_reencode.specs.mirror.Numbers.{float_atom, plain, FitsNumber, IsNumber}
use Rattle.cbor_reencode.proofs.Atoms.{said_again}

-- ---- the same number

by_form : (t : Bool) (o : Option (Bool × ℕ)) (s : Bool) (x a b : Atom) → said t a ≡ said t b
    → said t (sized_or o (cond s x a)) ≡ said t (sized_or o (cond s x b))
by_form t (Some n) s x a b e = refl
by_form t None true x a b e = refl
by_form t None false x a b e = e

-- of floats that are one double
same_form : (t : Bool) (f g : EncodedFloat) (a b : Atom) → widened g ≡ widened f → said t a ≡ said t b
    → said t (reduced_float f a) ≡ said t (reduced_float g b)
same_form t f g a b same e =
    by_form t (reduced f) (is_nan (number_of f)) (float 0x7e00 float_width.Sixteen) a b e
    ∙ ap (λ n. said t (sized_or (integer_of (from_bits binary64 n))
    (cond (is_nan (from_bits binary64 n)) (float 0x7e00 float_width.Sixteen) b))) (sym same)

chosen_said : (rules : Rules) (f g : EncodedFloat) → IsChosen rules f g
    → said rules.shortest_floats (float_atom f) ≡ said rules.shortest_floats (float_atom g)
chosen_said rules (Half bits) g is =
    said_again rules.shortest_floats bits float_width.Sixteen g refl refl is.same is.kept
chosen_said rules (Single bits) g is =
    said_again rules.shortest_floats bits float_width.ThirtyTwo g refl refl is.same is.kept
chosen_said rules (Double bits) g is =
    said_again rules.shortest_floats bits float_width.SixtyFour g refl refl is.same is.kept

atom_reduced : (rules : Rules) (f : EncodedFloat) → reduced_atom rules (float_atom f)
    ≡ cond rules.reduced_floats (reduced_float f (float_atom f)) (float_atom f)
atom_reduced rules (Half bits) = refl
atom_reduced rules (Single bits) = refl
atom_reduced rules (Double bits) = refl

by_flag : (t s : Bool) (f g : EncodedFloat) → widened g ≡ widened f → said t (float_atom f) ≡ said t (float_atom g)
    → said t (cond s (reduced_float f (float_atom f)) (float_atom f))
    ≡ said t (cond s (reduced_float g (float_atom g)) (float_atom g))
by_flag t true f g same e = same_form t f g (float_atom f) (float_atom g) same e
by_flag t false f g same e = e

pub chosen_number : (rules : Rules) (f g : EncodedFloat) → IsChosen rules f g
    → IsNumber rules f (code.Float g)
chosen_number rules f g is =
    let t = rules.shortest_floats in
    record {
      fits = is.fits;
      same = ap (λ (a : Atom). said t a) (atom_reduced rules f)
          ∙ by_flag t rules.reduced_floats f g is.same (chosen_said rules f g is)
          ∙ sym (ap (λ (a : Atom). said t a) (atom_reduced rules g));
    }

-- ---- an integer

no_float : (s : Bool) (g : EncodedFloat) (m k : ℕ)
    → float_atom g ≡ cond s (negative m width.Unknown) (integer k width.Unknown) → ⊥
no_float true g m k e = absurd cc
no_float false g m k e = absurd cc

on_flag : (s : Bool) (a b : Atom) → s ≡ true → cond s a b ≡ a
on_flag true a b on = refl
on_flag false a b on = absurd cc

pub integer_number : (rules : Rules) (f : EncodedFloat) (n : Reduced) (o : Bool × ℕ) → rules.reduced_floats ≡ true
    → reduced f ≡ Some o → plain n ≡ sized o.0 o.1 → FitsNumber n → IsNumber rules f n
integer_number rules f (code.Unsigned m) o on is e fits = record {
  fits = fits;
  same = ap (λ (a : Atom). said rules.shortest_floats a) (atom_reduced rules f
      ∙ on_flag rules.reduced_floats (reduced_float f (float_atom f)) (float_atom f) on
      ∙ ap (λ (k : Option (Bool × ℕ)). sized_or k (cond (is_nan (number_of f)) (float 0x7e00 float_width.Sixteen)
      (float_atom f))) is ∙ sym e);
}
integer_number rules f (code.Negative m) o on is e fits = record {
  fits = fits;
  same = ap (λ (a : Atom). said rules.shortest_floats a) (atom_reduced rules f
      ∙ on_flag rules.reduced_floats (reduced_float f (float_atom f)) (float_atom f) on
      ∙ ap (λ (k : Option (Bool × ℕ)). sized_or k (cond (is_nan (number_of f)) (float 0x7e00 float_width.Sixteen)
      (float_atom f))) is ∙ sym e);
}
integer_number rules f (code.Float g) o on is e fits =
    absurd (no_float (o.0 && ltb 0 o.1) g (o.1 - 1) o.1 e)

-- ---- the one NaN

usual_widened : widened (Half 0x7e00) ≡ 0x7ff8000000000000
unfolding widened half_value is_nan
usual_widened = refl

usual_reduced : reduced (Half 0x7e00) ≡ None
unfolding of_bits
usual_reduced = ap (λ n. integer_of (from_bits binary64 n)) usual_widened

same_ways : (s : Bool) (a : Atom) → cond s a a ≡ a
same_ways true a = refl
same_ways false a = refl

pub nan_number : (rules : Rules) (f : EncodedFloat) → rules.reduced_floats ≡ true → reduced f ≡ None
    → is_nan (number_of f) ≡ true → IsNumber rules f (code.Float (Half 0x7e00))
nan_number rules f on none nan =
    let u = float 0x7e00 float_width.Sixteen in
    let of_f : reduced_atom rules (float_atom f) ≡ u =
    atom_reduced rules f ∙ on_flag rules.reduced_floats (reduced_float f (float_atom f)) (float_atom f) on
    ∙ ap (λ (k : Option (Bool × ℕ)). sized_or k (cond (is_nan (number_of f)) u (float_atom f))) none
    ∙ on_flag (is_nan (number_of f)) u (float_atom f) nan in
    let of_usual : reduced_atom rules u ≡ u =
    on_flag rules.reduced_floats (reduced_float (Half 0x7e00) u) u on
    ∙ ap (λ (k : Option (Bool × ℕ)). sized_or k (cond (is_nan (number_of (Half 0x7e00))) u u)) usual_reduced
    ∙ same_ways (is_nan (number_of (Half 0x7e00))) u in
    record {
      fits = omega arith;
      same = ap (λ (a : Atom). said rules.shortest_floats a) (of_f ∙ sym of_usual);
    }

-- ---- what is wrong with a float

pub record FoundInteger (f : EncodedFloat) (below : Bool) (size : ℕ) : Type 0 where
  pub number : Bool × ℕ
  pub is : reduced f ≡ Some number
  pub sign : number.0 ≡ below
  pub size_is : number.1 ≡ size

pub found_integer : (f g : EncodedFloat) (below : Bool) (size : ℕ)
    → reduced_violation f ≡ Some (kind.IntegerFloat g below size) → FoundInteger f below size
found_integer f g below size e = go (reduced f) refl e
  where
    none : (n u : Bool) → cond (n && not u) (Some (kind.OtherNan f)) None ≡ Some (kind.IntegerFloat g below size) → ⊥
    none true true e = absurd cc
    none true false e = absurd cc
    none false u e = absurd cc

    go : (o : Option (Bool × ℕ)) → reduced f ≡ o
        → violation_or_else (integer_float f o) (nan_violation f) ≡ Some (kind.IntegerFloat g below size)
        → FoundInteger f below size
    go (Some n) is e = record { number = n; is = is; sign = cc; size_is = cc }
    go None is e = absurd (none (is_nan (number_of f)) (is_usual_nan f) e)

pub found_nan : (f : EncodedFloat) (k : ViolationKind) → reduced_violation f ≡ Some k
    → ((g : EncodedFloat) (below : Bool) (size : ℕ) → k ≢ kind.IntegerFloat g below size)
    → (reduced f ≡ None) × (is_nan (number_of f) ≡ true)
found_nan f k e other = go (reduced f) refl e
  where
    nan : (n u : Bool) → cond (n && not u) (Some (kind.OtherNan f)) None ≡ Some k → n ≡ true
    nan true u e = refl
    nan false u e = absurd cc

    go : (o : Option (Bool × ℕ)) → reduced f ≡ o → violation_or_else (integer_float f o) (nan_violation f) ≡ Some k
        → (reduced f ≡ None) × (is_nan (number_of f) ≡ true)
    go (Some n) is e = absurd (other f n.0 n.1 cc)
    go None is e = (is, nan (is_nan (number_of f)) (is_usual_nan f) e)
