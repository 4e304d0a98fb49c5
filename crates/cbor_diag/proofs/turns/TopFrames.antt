-- For `Stack::put` and `Stack::after_end`: a stack is a vector whose last element is the innermost. Reversed, the
-- vector begins with that element, also after it was replaced. If there is no last element, the vector is empty.
use Rattle.std.proofs.Common.{◌≡◌, ℕ, ◌+◌, ◌-◌, ◌<◌, List, [], ◌∷◌, ◌++◌, length, set, get_or, take, Some, None, refl}
use Rattle.std.proofs.Common.{sym}
use Rattle.std.proofs.Common.{ap, ◌∙◌, arith}
use Rattle.std.specs.Prelude.{reverse, slice_get}
use Rattle.std.proofs.lemmas.List.{reverse-append, length-set, take_all, take_more, take_more_set}
use Rattle.std.proofs.lemmas.Option.{slice_get-get_or, slice_get_within, get_or_from_slice_get}

pub last_is : {X : Type 0} (xs : List X) (n : ℕ) (x : X) → n ≡ length xs → 0 < n → x ≡ get_or xs (n - 1) x
    → reverse xs ≡ x ∷ reverse (take (n - 1) xs)
last_is xs n x count some is =
    let front = take (n - 1) xs in
    let all : take (n - 1 + 1) xs ≡ xs = take_all (n - 1 + 1) xs (omega arith) in
    let parts : take (n - 1 + 1) xs ≡ front ++ get_or xs (n - 1) x ∷ [] = take_more xs (n - 1) x (omega arith) in
    ap reverse (sym all ∙ parts ∙ ap (λ y. front ++ y ∷ []) (sym is)) ∙ reverse-append front (x ∷ [])

pub last_set : {X : Type 0} (xs : List X) (n : ℕ) (x : X) → n ≡ length xs → 0 < n
    → reverse (set xs (n - 1) x) ≡ x ∷ reverse (take (n - 1) xs)
last_set xs n x count some =
    let new = set xs (n - 1) x in
    let all : take (n - 1 + 1) new ≡ new = take_all (n - 1 + 1) new (omega (arith, length-set xs (n - 1) x)) in
    ap reverse (sym all ∙ take_more_set xs (n - 1) x (omega arith)) ∙ reverse-append (take (n - 1) xs) (x ∷ [])

pub last_got : {X : Type 0} (xs : List X) (x : X) → Some x ≡ slice_get xs (length xs - 1)
    → reverse xs ≡ x ∷ reverse (take (length xs - 1) xs)
last_got xs x is =
    let at = length xs - 1 in
    let within = slice_get_within xs at x (sym is) in
    last_is xs (length xs) x refl (omega arith) (sym (get_or_from_slice_get xs at x x (sym is)))

pub none_got : {X : Type 0} (xs : List X) → None ≡ slice_get xs (length xs - 1) → reverse xs ≡ []
none_got [] is = refl
none_got (x ∷ xs) is =
    let some = slice_get-get_or (x ∷ xs) (length (x ∷ xs) - 1) x (omega arith) in
    absurd (let wrong = is ∙ some in cc)
