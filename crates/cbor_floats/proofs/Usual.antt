-- For `is_usual` and `is_shortest` in `float.rt`: bits that are not those of the usual NaN encode their number
-- (`IsEncodingOf`) if and only if it is not NaN. A single that encodes its number is the shortest encoding
-- (`IsShortest`) if and only if no half encodes the number, and a double if and only if no single does.
use Rattle.std.proofs.Common.{◌≡◌, ◌^◌, ◌<◌, ℕ, Bool, true, false, not, Option, Some, None, MatchOption, is_none}
use Rattle.std.proofs.Common.{is_some, IsTrue, refl, sym, ap, ◌∙◌, subst, arith, lit<, true≢false}
use lib.Ieee.{Float, nan, is_nan, binary32, to_bits}
use Rattle.cbor_floats.specs.Value.{value_of, width_of, size_of, bits_of, usual_nan, IsEncodingOf, IsShortest}
use Rattle.cbor_floats.specs.declared.float.EncodedFloat.{EncodedFloat}
use Rattle.cbor_floats.specs.declared.float.EncodedFloat.TheVariants.{Half, Single, Double}
use Rattle.cbor_floats.specs.declared.float.Width.TheVariants.{SixtyFour}
use Rattle.cbor_floats.proofs.Halves.{nan_is_nan}
use Rattle.cbor_floats.proofs.Singles.{half_in_single}

nan_says : is_nan nan ≡ true
unfolding is_nan
nan_says = refl

abbrev pub Says : Bool → Type 0 → Type 0
Says r P = (IsTrue r → P) × (P → IsTrue r)

-- bits that are not those of the usual NaN
pub usual_unless : (self a : EncodedFloat) (n : Bool) → self ≡ a → bits_of a < 2 ^ size_of (width_of a)
    → n ≡ is_nan (value_of a) → (bits_of a ≡ usual_nan (width_of a) → ⊥)
    → Says (not n) (IsEncodingOf self (value_of self))
usual_unless self a n e fits q u = subst (λ (z : EncodedFloat). Says (not n) (IsEncodingOf z (value_of z))) (sym e)
    (at n q)
  where
    at : (n : Bool) → n ≡ is_nan (value_of a) → Says (not n) (IsEncodingOf a (value_of a))
    at true q = (λ f. absurd (true≢false (sym f)), λ h. absurd (u (h.usual (nan_is_nan (value_of a) q))))
    at false q = (
      λ _. record {
        fits = fits;
        value = refl;
        usual =
            λ z. absurd (true≢false (sym (q ∙ ap is_nan z ∙ nan_says)));
      },
      λ _. refl,
    )

pub none_is : (o : Option ℕ) (r : Bool) → is_some o ≡ not r → r ≡ is_none o
none_is None true e = refl
none_is None false e = absurd (true≢false (sym e))
none_is (Some bits) true e = absurd (true≢false e)
none_is (Some bits) false e = refl

-- what a search for the number in a narrower width found
abbrev pub Found : (ℕ → EncodedFloat) → Float → Option ℕ → Type 0
Found narrow x o = MatchOption o ((bits : ℕ) → ¬ (IsEncodingOf (narrow bits) x)) (λ bits. IsEncodingOf (narrow bits) x)

pub shortest_single : (self : EncodedFloat) (b : ℕ) (x : Float) (o : Option ℕ) (r : Bool) → self ≡ Single b
    → x ≡ value_of self → IsEncodingOf self (value_of self) → Found Half x o → r ≡ is_none o
    → Says r (IsShortest self (value_of self))
shortest_single self b x o r e v enc h q =
    subst (λ (z : EncodedFloat). Says r (IsShortest z (value_of z))) (sym e)
    (at o r (subst (λ (z : EncodedFloat). IsEncodingOf z (value_of z)) e enc)
    (subst (λ (y : Float). Found Half y o) (v ∙ ap value_of e) h) q)
  where
    at : (o : Option ℕ) (r : Bool) → IsEncodingOf (Single b) (value_of (Single b)) → Found Half (value_of (Single b)) o
        → r ≡ is_none o → Says r (IsShortest (Single b) (value_of (Single b)))
    at None r enc h q = (λ _. record { encodes = enc; shortest = none h }, λ _. q)
      where
        none : ((bits : ℕ) → ¬ (IsEncodingOf (Half bits) (value_of (Single b)))) → (other : EncodedFloat)
            → size_of (width_of other) < 32 → ¬ (IsEncodingOf other (value_of (Single b)))
        none h (Half bits) l k = h bits k
        none h (Single bits) l k = omega arith
        none h (Double bits) l k = omega arith
    at (Some bits) r enc h q = (λ t. absurd (true≢false (sym t ∙ q)), λ k. absurd (k.shortest (Half bits) (lit< tt) h))

-- no shorter width has the number if no single has it, since each half is a single
pub unless_single : (x : Float) → ((bits : ℕ) → ¬ (IsEncodingOf (Single bits) x)) → (other : EncodedFloat)
    → size_of (width_of other) < 64 → ¬ (IsEncodingOf other x)
unless_single x none (Half bits) l h = none (to_bits binary32 x) (half_in_single bits x h)
unless_single x none (Single bits) l h = none bits h
unless_single x none (Double bits) l h = omega arith

pub shortest_double : (self : EncodedFloat) (b : ℕ) (x : Float) (o : Option ℕ) (r : Bool) → self ≡ Double b
    → x ≡ value_of self → IsEncodingOf self (value_of self)
    → Found Single x o → r ≡ is_none o → Says r (IsShortest self (value_of self))
shortest_double self b x o r e v enc h q =
    subst (λ (z : EncodedFloat). Says r (IsShortest z (value_of z))) (sym e)
    (at o r (subst (λ (z : EncodedFloat). IsEncodingOf z (value_of z)) e enc)
    (subst (λ (z : Float). Found Single z o) (v ∙ ap value_of e) h) q)
  where
    at : (o : Option ℕ) (r : Bool) → IsEncodingOf (Double b) (value_of (Double b))
        → Found Single (value_of (Double b)) o → r ≡ is_none o → Says r (IsShortest (Double b) (value_of (Double b)))
    at None r enc h q = (
      λ _. record { encodes = enc; shortest = unless_single (value_of (Double b)) h },
      λ _. q,
    )
    at (Some bits) r enc h q = (
      λ t. absurd (true≢false (sym t ∙ q)),
      λ i. absurd (i.shortest (Single bits) (lit< tt) h),
    )

-- a number that no single has, as a double
pub double_shortest : (x : Float) (f : EncodedFloat) → width_of f ≡ SixtyFour → IsEncodingOf f x
    → ((bits : ℕ) → ¬ (IsEncodingOf (Single bits) x)) → IsShortest f x
double_shortest x f width enc none = record {
  encodes = enc;
  shortest = λ other l. unless_single x none other (subst (λ w. size_of (width_of other) < size_of w) width l);
}
