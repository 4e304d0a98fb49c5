-- `matcher` with some levels answers by `step` with one level fewer (`fits_at`, `takes_at`). If a node has a control,
-- its `target` is asked first: a value that does not fit the target does not fit, and otherwise `fits_itself` decides.
-- Without a control, `fits_itself` decides alone.
use Rattle.std.proofs.Common.{◌≡◌, ℕ, zero, suc, ◌<◌, ◌-◌, true, false, Option, Some, None, ap, sym, ◌∙◌, arith}
use Rattle.cbor_cddl.specs.declared.schema.Node.{Node}
use Rattle.cbor_fits.specs.Value.{Value}
use Rattle.cbor_fits.specs.Rules.{Rules}
use Rattle.cbor_fits.specs.Fits.{Matcher, Rest, step, matcher, fits_node, fits_itself, fits_target, target, both}
use Rattle.cbor_fits.specs.Fits.{takes_node}

pub matcher_at : (r : Rules) (d : ℕ) → 0 < d → matcher r d ≡ step r (matcher r (d - 1))
unfolding matcher
matcher_at r zero h = absurd (omega arith)
matcher_at r (suc d) h = let e : d ≡ suc d - 1 = omega arith in ap (λ k. step r (matcher r k)) e

pub fits_at : (r : Rules) (d n : ℕ) (x : Value) → 0 < d
    → (matcher r d).fits n x ≡ fits_node r (matcher r (d - 1)) n (r.node n) x
fits_at r d n x h = ap (λ m. m.fits n x) (matcher_at r d h)

pub takes_at : (r : Rules) (d n : ℕ) (rest : Rest) → 0 < d
    → (matcher r d).takes n rest ≡ takes_node r (matcher r (d - 1)) n (r.node n) rest
takes_at r d n rest h = ap (λ m. m.takes n rest) (matcher_at r d h)

module _ (r : Rules) (m : Matcher) (n : ℕ) (x : Value) (node : Node) (w : Option ℕ) (is : node ≡ r.node n)
    (says : w ≡ target node) where
  -- the target of the node
  at_target : (o : Option ℕ) → w ≡ o
      → fits_node r m n (r.node n) x ≡ both (fits_target m.fits o x) (fits_itself r m n (r.node n) x)
  at_target o e = ap (λ p. both (fits_target m.fits p x) (fits_itself r m n (r.node n) x))
      (sym (says ∙ ap target is) ∙ e)

  -- no control
  pub fits_alone : w ≡ None → fits_node r m n (r.node n) x ≡ fits_itself r m n (r.node n) x
  fits_alone e = at_target None e

  -- a control whose target fits
  pub fits_after : (t : ℕ) → w ≡ Some t → m.fits t x ≡ Some true
      → fits_node r m n (r.node n) x ≡ fits_itself r m n (r.node n) x
  fits_after t e fits = at_target (Some t) e ∙ ap (λ p. both p (fits_itself r m n (r.node n) x)) fits

  -- a control whose target does not fit
  pub fits_not_after : (t : ℕ) → w ≡ Some t → m.fits t x ≡ Some false → fits_node r m n (r.node n) x ≡ Some false
  fits_not_after t e fits = at_target (Some t) e ∙ ap (λ p. both p (fits_itself r m n (r.node n) x)) fits
