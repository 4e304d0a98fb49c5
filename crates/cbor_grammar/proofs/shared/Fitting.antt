-- The result of a test of all elements of a list is true if and only if each of them has the tested property
-- (`AllByRecursion`). This needs that the test returns true only if all elements have the property, and false only if
-- one lacks it.
use Rattle.std.proofs.Common.{◌↔◌, ℕ, ◌<◌, Bool, true, false, IsTrue, MatchBool, List, [], ◌∷◌, length, map, refl}
use Rattle.std.proofs.Common.{arith}
use Rattle.std.specs.List.{AllByRecursion, AllWithin, HoldsAt}
use Rattle.std.proofs.lemmas.Bool.{false≢true}
use Rattle.std.proofs.lemmas.List.Elements.{All-from_recursion, recursion_from_All}

recursion_of-map : {X Y : Type 0} (P : Y → Type 0) (f : X → Y) (xs : List X)
    → AllByRecursion (λ x. P (f x)) xs ↔ AllByRecursion P (map f xs)
recursion_of-map P f [] = (λ h. h, λ h. h)
recursion_of-map P f (x ∷ xs) =
    let more = recursion_of-map P f xs in
    (λ h. (h.0, more.0 h.1), λ h. (h.0, more.1 h.1))

none_fails : {X : Type 0} (P : X → Type 0) (xs : List X) (k : ℕ) → k < length xs → HoldsAt (λ x. ¬ P x) xs k
    → ¬ AllByRecursion P xs
none_fails P [] k lt fails all = absurd (omega arith)
none_fails P (x ∷ xs) k lt fails all = fails x (All-from_recursion P (x ∷ xs) all k x lt)

pub all_tested : {X Y : Type 0} (P : Y → Type 0) (f : X → Y) (xs : List X) (r : Bool)
    → MatchBool r (AllWithin (λ x. P (f x)) xs 0 (length xs))
    ((k : ℕ) × (k < length xs) × HoldsAt (λ x. ¬ P (f x)) xs k) → IsTrue r ↔ AllByRecursion P (map f xs)
all_tested P f xs true h = (
  λ _. (recursion_of-map P f xs).0 (recursion_from_All (λ x. P (f x)) xs (λ k d lt. h k d (omega arith) lt)),
  λ _. refl,
)
all_tested P f xs false h = (
  λ e. absurd (false≢true e),
  λ all. absurd
      (none_fails (λ x. P (f x)) xs h.0 h.1 h.2 ((recursion_of-map P f xs).1 all)),
)
