-- Two lists pass `pointwise` with a test if and only if a function gives the same list for both (`lists_compared`).
-- This needs that the test holds of two elements if and only if the function gives the same value for both.
use Rattle.std.proofs.Common.{◌≡◌, ◌↔◌, Bool, IsTrue, List, [], ◌∷◌, map, refl}
use Rattle.std.specs.Cmp.Lexicographic.{pointwise}
use Rattle.std.proofs.lemmas.Bool.{false≢true, and_parts, and_from}

module _ {X Y : Type 0} (test : X → X → Bool) (f : X → Y) (tells : (x y : X) → IsTrue (test x y) ↔ (f x ≡ f y)) where
  alike : (xs ys : List X) → IsTrue (pointwise test xs ys) → map f xs ≡ map f ys
  alike [] [] h = refl
  alike (x ∷ xs) (y ∷ ys) h =
      let p = and_parts (test x y) (pointwise test xs ys) h in
      λ k. (tells x y).0 p.0 k ∷ alike xs ys p.1 k
  alike xs ys h = absurd (false≢true h)

  passed : (xs ys : List X) → map f xs ≡ map f ys → IsTrue (pointwise test xs ys)
  passed [] [] e = refl
  passed (x ∷ xs) (y ∷ ys) e = and_from _ _ ((tells x y).1 cc) (passed xs ys cc)
  passed xs ys e = absurd cc

  pub lists_compared : (xs ys : List X) → IsTrue (pointwise test xs ys) ↔ (map f xs ≡ map f ys)
  lists_compared xs ys = (alike xs ys, passed xs ys)
