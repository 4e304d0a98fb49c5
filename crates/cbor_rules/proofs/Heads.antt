-- `number_violation` is `None` if and only if a number that fits its width keeps the rules (`KeepsNumber`), and
-- `simple_violation` if and only if a simple value keeps them (`KeepsSimple`) and is not below 32 in two bytes. A chain
-- of steps (`kept_then`, `unless`, `at`) passes only if each step passes.
use Rattle.std.proofs.Common.{◌≡◌, ℕ, ◌<◌, ◌≤◌, ◌⊎◌, Bool, true, false, cond, ◌&&◌, ◌||◌, ltb, leb, List, ◌∷◌, ◌++◌}
use Rattle.std.proofs.Common.{Option, Some, None, Result, Ok, Err, inl, inr, refl, ap, ◌∙◌, arith}
use Rattle.std.proofs.lemmas.Bool.{le-ltb, ltb-false, le-leb, leb-true}
use Rattle.cbor_grammar.specs.declared.width.IntegerWidth.{IntegerWidth}
use Rattle.cbor_grammar.specs.declared.width.IntegerWidth.TheVariants.{Unknown, Zero, Eight, Sixteen, ThirtyTwo}
use Rattle.cbor_grammar.specs.declared.width.IntegerWidth.TheVariants.{SixtyFour}
use Rattle.cbor_grammar.specs.declared.error.Error.{Error}
use Rattle.cbor_grammar.specs.Head.{FitsStated, shortest}
use Rattle.cbor_grammar.specs.Bytes.{any, strict, SpellsSimple}
use Rattle.cbor_grammar.proofs.bytes.Strict.{shortest_has}
use Rattle.cbor_rules.specs.declared.rules.Rules.{Rules}
use Rattle.cbor_rules.specs.declared.kind.ViolationKind.{ViolationKind}
use Rattle.cbor_rules.specs.declared.kind.ViolationKind.TheVariants as kind
use Rattle.cbor_rules.specs.FirstViolation.{Kept, kept_then, unless, at, is_long, number_violation, simple_violation}
use Rattle.cbor_rules.specs.FirstViolation.{two_byte_violation, other_violation, violation_or_else}
use Rattle.cbor_rules.specs.Keeps.{KeepsNumber, KeepsSimple}

-- ---- what was read without a violation

pub then_kept : {X Y : Type 0} (r : Kept X) (f : X → Kept Y) (y : Y) → kept_then r f ≡ Ok y
    → (x : X) × (r ≡ Ok x) × (f x ≡ Ok y)
then_kept (Ok x) f y e = (x, refl, e)
then_kept (Err b) f y e = absurd cc

pub kept_is : {X : Type 0} (x y : X) → ◌≡◌ {A = Kept X} (Ok x) (Ok y) → x ≡ y
kept_is x y e = cc

pub unless_kept : {X : Type 0} (total : ℕ) (b : List ℕ) (k : Option ViolationKind) (x y : X)
    → unless total b k x ≡ Ok y → (k ≡ None) × (x ≡ y)
unless_kept total b None x y e = (refl, cc)
unless_kept total b (Some k) x y e = absurd cc

pub at_kept : {X : Type 0} (total : ℕ) (b : List ℕ) (r : Result X Error) (x : X) → at total b r ≡ Ok x → r ≡ Ok x
at_kept total b (Ok y) x e = (let same : y ≡ x = cc in ap (λ z. Ok z) same)
at_kept total b (Err d) x e = absurd cc

-- ---- tests

-- a test that nothing fails
pub test_none : {A : Type 0} (t : Bool) (x : A) → cond t (Some x) None ≡ None → t ≡ false
test_none true x e = absurd cc
test_none false x e = refl

pub test_kept : {A : Type 0} (t : Bool) (x : A) → ¬ (t ≡ true) → cond t (Some x) None ≡ None
test_kept true x never = absurd (never refl)
test_kept false x never = refl

pub some_first : {A : Type 0} (t : Bool) (x : A) (y : Option A) → cond t (Some x) y ≡ None → (t ≡ false) × (y ≡ None)
some_first true x y e = absurd cc
some_first false x y e = (refl, e)

pub tested : {A : Type 0} (t : Bool) (x : Option A) → t ≡ true → cond t x None ≡ None → x ≡ None
tested true x on e = e
tested false x on e = absurd cc

pub untested : {A : Type 0} (t : Bool) (x : Option A) → (t ≡ true → x ≡ None) → cond t x None ≡ None
untested true x none = none refl
untested false x none = refl

pub both_none : (x y : Option ViolationKind) → violation_or_else x y ≡ None → (x ≡ None) × (y ≡ None)
both_none (Some k) y e = absurd cc
both_none None y e = (refl, e)

-- ---- numbers

long_false : (w : IntegerWidth) (n : ℕ) → FitsStated w n → is_long w n ≡ false → w ≡ shortest n
long_false Unknown n fits e = absurd fits
long_false Zero n fits e =
    shortest_has (λ v. Zero ≡ v) n (λ h. refl) (λ l h. absurd (omega arith)) (λ l h. absurd (omega arith))
    (λ l h. absurd (omega arith)) (λ l. absurd (omega arith))
long_false Eight n fits e =
    let least = ltb-false n 24 e in
    shortest_has (λ v. Eight ≡ v) n (λ h. absurd (omega arith)) (λ l h. refl) (λ l h. absurd (omega arith))
    (λ l h. absurd (omega arith)) (λ l. absurd (omega arith))
long_false Sixteen n fits e =
    let least = ltb-false n 0x100 e in
    shortest_has (λ v. Sixteen ≡ v) n (λ h. absurd (omega arith)) (λ l h. absurd (omega arith)) (λ l h. refl)
    (λ l h. absurd (omega arith)) (λ l. absurd (omega arith))
long_false ThirtyTwo n fits e =
    let least = ltb-false n 0x10000 e in
    shortest_has (λ v. ThirtyTwo ≡ v) n (λ h. absurd (omega arith)) (λ l h. absurd (omega arith))
    (λ l h. absurd (omega arith)) (λ l h. refl) (λ l. absurd (omega arith))
long_false SixtyFour n fits e =
    let least = ltb-false n 0x100000000 e in
    shortest_has (λ v. SixtyFour ≡ v) n (λ h. absurd (omega arith)) (λ l h. absurd (omega arith))
    (λ l h. absurd (omega arith)) (λ l h. absurd (omega arith)) (λ l. refl)

shortest_false : (n : ℕ) → is_long (shortest n) n ≡ false
shortest_false n =
    shortest_has (λ w. is_long w n ≡ false) n (λ h. le-ltb n 0 (omega arith)) (λ l h. le-ltb n 24 l)
    (λ l h. le-ltb n 0x100 (omega arith)) (λ l h. le-ltb n 0x10000 (omega arith))
    (λ l. le-ltb n 0x100000000 (omega arith))

long_test : (s : Bool) (w : IntegerWidth) (n : ℕ) → FitsStated w n → (s && is_long w n) ≡ false → s ≡ true
    → w ≡ shortest n
long_test true w n fits e on = long_false w n fits e
long_test false w n fits e on = absurd cc

short_test : (s : Bool) (w : IntegerWidth) (n : ℕ) → (s ≡ true → w ≡ shortest n) → ¬ ((s && is_long w n) ≡ true)
short_test true w n keeps = λ e.
    let short : is_long w n ≡ false = rw (keeps refl) (shortest_false n) in absurd cc
short_test false w n keeps = λ e. absurd cc

pub number_found : (rules : Rules) (n : ℕ) (w : IntegerWidth) → FitsStated w n → number_violation rules n w ≡ None
    → KeepsNumber rules n w
number_found rules n w fits e =
    long_test rules.shortest_heads w n fits (test_none (rules.shortest_heads && is_long w n) (kind.LongHead n w) e)

pub number_again : (rules : Rules) (n : ℕ) (w : IntegerWidth) → KeepsNumber rules n w →
    number_violation rules n w ≡ None
number_again rules n w keeps =
    test_kept (rules.shortest_heads && is_long w n) (kind.LongHead n w)
    (short_test rules.shortest_heads w n keeps)

-- ---- simple values

-- it takes the bytes that it has to
strict_found : (n : ℕ) (front rest : List ℕ) → SpellsSimple any front n → two_byte_violation (front ++ rest) ≡ None
    → SpellsSimple strict front n × ((n < 24) ⊎ (32 ≤ n))
strict_found n front rest (inl s) e = (inl s, inl s.0)
strict_found n front rest (inr s) e =
    let two : two_byte_violation (0xf8 ∷ n ∷ rest) ≡ None = rw s.1 at e in
    let least : 32 ≤ n = ltb-false n 32 (test_none (ltb n 32) kind.LongSimple two) in
    (inr (omega arith, s.0, s.1), inr least)

-- it is one that there may be
other_found : (t : Bool) (n : ℕ) → cond (t || (leb 20 n && leb n 22)) None (Some (kind.OtherSimple n)) ≡ None
    → (t ≡ true) ⊎ ((20 ≤ n) × (n ≤ 22))
other_found true n e = inl refl
other_found false n e = inr (go (leb 20 n) (leb n 22) refl refl e)
  where
    go : (l m : Bool) → leb 20 n ≡ l → leb n 22 ≡ m → cond (l && m) None (Some (kind.OtherSimple n)) ≡ None
        → (20 ≤ n) × (n ≤ 22)
    go true true a b e = (leb-true 20 n a, leb-true n 22 b)
    go true false a b e = absurd cc
    go false m a b e = absurd cc

other_again : (t : Bool) (n : ℕ) → (t ≡ true) ⊎ ((20 ≤ n) × (n ≤ 22))
    → cond (t || (leb 20 n && leb n 22)) None (Some (kind.OtherSimple n)) ≡ None
other_again true n h = refl
other_again false n (inl is) = absurd cc
other_again false n (inr h) = rw (le-leb 20 n h.0, le-leb n 22 h.1) refl

pub simple_found : (rules : Rules) (n : ℕ) (front rest : List ℕ) → SpellsSimple any front n
    → simple_violation rules n (front ++ rest) ≡ None → SpellsSimple strict front n × KeepsSimple rules n
simple_found rules n front rest s e =
    let p = both_none (two_byte_violation (front ++ rest)) (other_violation rules n) e in
    let q = strict_found n front rest s p.0 in
    (q.0, (q.1, other_found rules.other_simple n p.1))

pub simple_again : (rules : Rules) (n : ℕ) (b : List ℕ) → two_byte_violation b ≡ None → KeepsSimple rules n
    → simple_violation rules n b ≡ None
simple_again rules n b none keeps =
    ap (λ k. violation_or_else k (other_violation rules n)) none ∙ other_again rules.other_simple n keeps.1
