-- For `strict.rt`: `after_head` returns `None` for no bytes, the bytes after a break, and otherwise what `after_read`
-- makes of the head. The loop over heads in `is_strict` returns what `are_heads` returns.
use Rattle.std.proofs.Common.{◌≡◌, ℕ, zero, suc, ◌<◌, ◌≤◌, List, [], ◌∷◌, length, Option, Some, None, Bool, true, false}
use Rattle.std.proofs.Common.{refl, sym, ap, ◌∙◌, arith, ◌≢◌, ◌-◌, ◌==◌, take, drop, slice_index, if◌then◌else◌}
use Rattle.std.specs.Prelude.{MatchOption}
use Rattle.std.proofs.Math.Seq.{take-length}
use Rattle.std.proofs.lemmas.Bool.{eqb-false, eqb-true}
use Rattle.std.proofs.lemmas.Bool.Decides.{nat_tests}
use Rattle.cbor_grammar.specs.Reading.{read_head}
use Rattle.cbor_inside.specs.Strict.{after_head, after_read, go_on, are_heads}

pub head_none : (b : List ℕ) → length b < 1 → after_head b ≡ None
unfolding after_head
head_none [] none = refl
head_none (x ∷ b) none = absurd (omega (arith, none))

pub head_break : (b : List ℕ) → 1 ≤ length b → slice_index b 0 ≡ 255
    → after_head b ≡ Some (take (length b - 1) (drop 1 b))
unfolding after_head
head_break [] some is = absurd (omega (arith, some))
head_break (x ∷ b) some is =
    let all : suc (length b) - 1 ≡ length b = omega arith in
    let test : (x == 255) ≡ true = grind (arith, nat_tests, is) in
    ap (λ t. if t then Some b else after_read x (read_head (x ∷ b))) test
    ∙ ap (λ r. Some r) (sym (ap (λ n. take n b) all ∙ take-length b))

pub head_read : (b : List ℕ) → 1 ≤ length b → slice_index b 0 ≢ 255
    → after_head b ≡ after_read (slice_index b 0) (read_head b)
unfolding after_head
head_read [] some is = absurd (omega (arith, some))
head_read (x ∷ b) some is =
    let test : (x == 255) ≡ false = grind (arith, nat_tests, is) in
    ap (λ t. if t then Some b else after_read x (read_head (x ∷ b))) test

pub read_on : {X : Type 0} (r : Option X) (view : X → List ℕ) (b : List ℕ) → 1 ≤ length b → slice_index b 0 ≢ 255
    → MatchOption r (after_read (slice_index b 0) (read_head b) ≡ None)
    (λ x. after_read (slice_index b 0) (read_head b) ≡ Some (view x))
    → MatchOption r (after_head b ≡ None) (λ x. after_head b ≡ Some (view x))
read_on None view b some is h = head_read b some is ∙ h
read_on (Some x) view b some is h = head_read b some is ∙ h

pub heads_end : (n : ℕ) (b : List ℕ) (total : Bool) → length b ≡ 0 → are_heads n b ≡ total → total ≡ true
unfolding are_heads
heads_end zero [] total none so_far = sym so_far
heads_end (suc n) [] total none so_far = sym so_far
heads_end n (x ∷ b) total none so_far = absurd (omega (arith, none))

pub heads_more : (n : ℕ) (b rest : List ℕ) (total : Bool) → length b ≤ n → after_head b ≡ Some rest
    → length rest < length b → are_heads n b ≡ total
    → (m : ℕ) × (length rest ≤ m) × (are_heads m rest ≡ total)
unfolding are_heads
heads_more n [] rest total room found shorter so_far = absurd (omega (arith, shorter))
heads_more zero (x ∷ b) rest total room found shorter so_far = absurd (omega (arith, room))
heads_more (suc n) (x ∷ b) rest total room found shorter so_far =
    (n, omega (arith, room, shorter), ap (go_on (are_heads n)) (sym found) ∙ so_far)

pub heads_fail : (n : ℕ) (b : List ℕ) (total : Bool) → 0 < length b → after_head b ≡ None → are_heads n b ≡ total
    → total ≡ false
unfolding are_heads
heads_fail n [] total some found so_far = absurd (omega (arith, some))
heads_fail zero (x ∷ b) total some found so_far = sym so_far
heads_fail (suc n) (x ∷ b) total some found so_far = sym so_far ∙ ap (go_on (are_heads n)) found

pub none_left : (b : List ℕ) (none : Bool) → none ≡ (length b == 0) → none ≡ true → length b ≡ 0
none_left b true is h = eqb-true (length b) 0 (sym is)
none_left b false is h = absurd cc

pub some_left : (b : List ℕ) (none : Bool) → none ≡ (length b == 0) → none ≡ false → 0 < length b
some_left b true is h = absurd cc
some_left b false is h = let some = eqb-false (length b) 0 (sym is) in omega (arith, some)
