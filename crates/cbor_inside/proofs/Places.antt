-- For `Inside::opens`: a binary search finds a place in places that are in order if and only if it is one of them.
use Rattle.std.proofs.Common.{◌≡◌, ℕ, ◌<◌, ◌≤◌, List, false, ◌==◌, Result, Ok, Err, sym, arith}
use Rattle.std.proofs.Common.{get_or, zero, suc, ◌⊎◌, inl, inr, ⊎_elim}
use Rattle.std.specs.List.{list_any}
use Rattle.std.specs.List.Sorted.{IsNonDecreasing, IsBinarySearchResult}
use Rattle.std.specs.Ordering.{nat_cmp}
use Rattle.std.specs.Result.{is_ok}
use Rattle.std.proofs.lemmas.Bool.{eq-eqb}
use Rattle.std.proofs.lemmas.Bool.Decides.{nat_tests}
use Rattle.std.proofs.lemmas.List.Elements.{All-from_get_or}
use Rattle.std.proofs.lemmas.List.Folds.{list_any_at, list_any_none}
use Rattle.std.proofs.lemmas.List.Sorted.{searched}

below : (y x : ℕ) → y < x → (y == x) ≡ false
below y x lt = grind (arith, nat_tests, lt)

above : (y x : ℕ) → x < y → (y == x) ≡ false
above y x lt = grind (arith, nat_tests, lt)

order : (m n : ℕ) → (m < n) ⊎ (n ≤ m)
order m zero = inr (omega arith)
order zero (suc n) = inl (omega arith)
order (suc m) (suc n) = ⊎_elim (λ l. inl (omega (arith, l))) (λ l. inr (omega (arith, l))) (order m n)

pub found_is : (xs : List ℕ) (x : ℕ) (r : Result ℕ ℕ) → IsBinarySearchResult (λ y. nat_cmp y x) xs r
    → IsNonDecreasing xs → is_ok r ≡ list_any (λ y. y == x) xs
found_is xs x (Ok i) h up =
    let s = searched xs x (Ok i) h (λ i j. up i j 0) in
    sym (list_any_at (λ y. y == x) xs i 0 s.0 (eq-eqb (get_or xs i 0) x s.1))
found_is xs x (Err i) h up =
    let s = searched xs x (Err i) h (λ i j. up i j 0) in
    sym (list_any_none (λ y. y == x) xs (All-from_get_or (λ y. (y == x) ≡ false) xs 0
    (λ k lt. ⊎_elim (λ l. below (get_or xs k 0) x (s.1 k l)) (λ l. above (get_or xs k 0) x (s.2 k l lt)) (order k i))))
