-- For the walk from the outermost item down to a byte (`IsWay`): a step into a part that has the byte keeps `IsOnWay`,
-- if no other part has the byte. If no part of an item has the byte, the walk ends at this item, and each way from the
-- outermost item ends there.
use Rattle.std.proofs.Common.{◌≡◌, ℕ, ◌≤◌, List, [], ◌∷◌, Some, None, refl, subst, arith}
use Rattle.cbor_trace.specs.declared.part.Part.{Part}
use Rattle.cbor_trace.specs.declared.part.Spot.{Spot}
use Rattle.cbor_trace.specs.Around.{IsPartAt, IsWay, ends, enters, outermost, spot_of}

-- The way goes on from this spot: each way from here is one from the outermost item, and the other way round.
pub record IsOnWay (b : List ℕ) (at : ℕ) (s : Spot) : Type 0 where
  pub level : s.level ≤ 129
  pub from : (ps : List Part) (t : Spot) → IsWay b at s ps t → (qs : List Part) × IsWay b at outermost qs t
  pub back : (qs : List Part) (t : Spot) → IsWay b at outermost qs t → (ps : List Part) × IsWay b at s ps t

module _ (b : List ℕ) (at : ℕ) where
  pub way_begins : IsOnWay b at outermost
  way_begins = record { level = omega arith; from = λ ps t w. (ps, w); back = λ qs t w. (qs, w) }

  pub way_goes : (s : Spot) (p : Part) → IsOnWay b at s → IsPartAt b s at p
      → ((q : Part) → IsPartAt b s at q → q ≡ p) → IsOnWay b at (spot_of s p)
  way_goes s p h is only = record {
    level = omega (arith, is.1.before.levels);
    from = λ ps t w. h.from (p ∷ ps) t (enters p is w);
    back = λ qs t w. let v = h.back qs t w in inner v.0 t v.1;
  }
    where
      inner : (ps : List Part) (t : Spot) → IsWay b at s ps t → (qs : List Part) × IsWay b at (spot_of s p) qs t
      inner [] t (ends left) = absurd (left p is)
      inner (q ∷ qs) t (enters _ there way) =
          (qs, subst (λ (r : Part). IsWay b at (spot_of s r) qs t) (only q there) way)

  pub way_ends : (s : Spot) → IsOnWay b at s → ((q : Part) → ¬ (IsPartAt b s at q))
      → (ps : List Part) × IsWay b at outermost ps s
  way_ends s h none = h.from [] s (ends none)

  pub way_only : (s : Spot) → IsOnWay b at s → ((q : Part) → ¬ (IsPartAt b s at q))
      → (qs : List Part) (t : Spot) → IsWay b at outermost qs t → t ≡ s
  way_only s h none qs t w = let v = h.back qs t w in last v.0 t v.1
    where
      last : (ps : List Part) (u : Spot) → IsWay b at s ps u → u ≡ s
      last [] u (ends _) = refl
      last (q ∷ qs) u (enters _ there way) = absurd (none q there)

  -- what a call that returns the part says of others
  pub no_part : (s : Spot) → ((p : Part) → IsPartAt b s at p → None ≡ Some p) → (p : Part) → ¬ (IsPartAt b s at p)
  no_part s every p is = let e = every p is in absurd cc

  pub that_part : (s : Spot) (p : Part) → ((q : Part) → IsPartAt b s at q → Some p ≡ Some q)
      → (q : Part) → IsPartAt b s at q → q ≡ p
  that_part s p every q is = let e = every q is in cc
