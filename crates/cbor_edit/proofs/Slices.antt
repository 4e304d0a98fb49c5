-- The bytes from one place to another are those up to a place between them, and those from it on (`split`). The bytes
-- from 0 to the length are all bytes.
use Rattle.std.proofs.Common.{◌≡◌, ℕ, ◌+◌, ◌-◌, ◌≤◌, List, ◌++◌, length, take, drop, sym, ap, ◌∙◌, arith}
use Rattle.std.proofs.lemmas.List.{take-append-drop, take-take, drop-take, drop-drop, take_all}

-- the first n bytes from a place on, and the k after them
two_parts : (b : List ℕ) (s n k : ℕ) → take (n + k) (drop s b) ≡ take n (drop s b) ++ take k (drop (s + n) b)
two_parts b s n k =
    let front : take n (take (n + k) (drop s b)) ≡ take n (drop s b) = take-take n (n + k) (drop s b) (omega arith) in
    let back : drop n (take (n + k) (drop s b)) ≡ take k (drop (s + n) b) =
    drop-take n k (drop s b) ∙ ap (take k) (drop-drop n s b) in
    sym (take-append-drop n (take (n + k) (drop s b)))
    ∙ ap (λ (x : List ℕ). x ++ drop n (take (n + k) (drop s b))) front
    ∙ ap (λ (x : List ℕ). take n (drop s b) ++ x) back

-- the bytes up to a place between two others, and those from it on
pub split : (b : List ℕ) (s m e : ℕ) → s ≤ m → m ≤ e
    → take (e - s) (drop s b) ≡ take (m - s) (drop s b) ++ take (e - m) (drop m b)
split b s m e from to =
    let whole : e - s ≡ (m - s) + (e - m) = omega arith in
    let at : s + (m - s) ≡ m = omega arith in
    ap (λ (n : ℕ). take n (drop s b)) whole ∙ two_parts b s (m - s) (e - m)
    ∙ ap (λ (n : ℕ). take (m - s) (drop s b) ++ take (e - m) (drop n b)) at

-- all of them
pub all : (b : List ℕ) → take (length b - 0) (drop 0 b) ≡ b
all b = take_all (length b - 0) b (omega arith)
