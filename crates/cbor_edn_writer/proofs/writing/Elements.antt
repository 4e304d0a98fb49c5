-- For `elements.rt`: bytes that divide into elements have a first one, and others that divide again. What is written of
-- further elements (`MoreElements`) is built up from an element and the rest.
use Rattle.std.proofs.Common.{◌≡◌, ℕ, zero, suc, ◌+◌, ◌-◌, ◌%◌, ◌<◌, ◌≤◌, List, [], ◌∷◌, ◌++◌, length, take}
use Rattle.std.proofs.Common.{drop, Bool, Some, None, Result, Ok, Err, OnOk, true, false, refl, sym, ap}
use Rattle.std.proofs.Common.{subst, ◌∙◌, append_assoc, arith}
use Rattle.std.proofs.Math.Nat.{mod-eq-sub-mod, mod-eq_of_lt}
use Rattle.std.proofs.lemmas.Bool.Decides.{nat_tests}
use Rattle.std.specs.Prelude.{codes, if◌then◌else◌, is_ok, nat_le, ◌&&◌}
use Rattle.cbor_notes.proofs.texts.ElementLemmas.{size_small}
use Rattle.cbor_notes.specs.Element.{size, is_typed_array}
use Rattle.cbor_edn_writer.specs.Elements.{IsElementText, MoreElements, is_shown, shown_size}

-- ---- sizes

chosen : (b : Bool) (n m : ℕ) → (if b then Some n else None) ≡ Some m → (n ≡ m) × (b ≡ true)
chosen true n m is = (cc, refl)
chosen false n m is = (cc, cc)

right_of : (a b : Bool) → (a && b) ≡ true → b ≡ true
right_of true b both = both
right_of false b both = cc

-- the size of a tag whose elements are shown
pub size_is : (tag bytes : ℕ) → shown_size tag ≡ Some bytes
    → (size tag ≡ bytes) × (is_shown tag ≡ true) × (1 ≤ bytes) × (bytes ≤ 8)
size_is tag bytes is =
    let p = chosen (is_shown tag) (size tag) bytes is in
    let small : nat_le (size tag) 8 ≡ true = right_of (is_typed_array tag) (nat_le (size tag) 8) p.1 in
    let some = (size_small tag).0 in
    let few : size tag ≤ 8 = grind (arith, nat_tests) in
    (p.0, p.1, omega (arith, p.0), omega (arith, p.0))

-- whole elements have a first one
pub one_fits : (n each : ℕ) → n % each ≡ 0 → 0 < n → each ≤ n
one_fits n each whole some = grind (arith, mod-eq_of_lt)

-- and what follows it is whole elements
pub rest_whole : (n each rest : ℕ) → n % each ≡ 0 → rest + each ≡ n → rest % each ≡ 0
rest_whole n each rest whole is =
    let le : each ≤ n = omega arith in
    let less : n - each ≡ rest = omega arith in
    ap (λ m. m % each) (sym less) ∙ sym (mod-eq-sub-mod le) ∙ whole

-- ---- further elements

-- nothing is written of no bytes
pub no_more : (tag left : ℕ) (bytes : List ℕ) → length bytes ≡ 0 → MoreElements tag left bytes []
unfolding MoreElements
no_more tag left [] none = refl
no_more tag left (b ∷ bs) none = absurd (omega arith)

-- `..` of bytes where no element is left to show
pub others : (tag : ℕ) (bytes : List ℕ) → 0 < length bytes → MoreElements tag 0 bytes (codes ", ..")
unfolding MoreElements
others tag [] some = absurd (omega arith)
others tag (b ∷ bs) some = refl

-- an element and the rest
pub one_more : (tag each left : ℕ) (bytes front rest element more : List ℕ) → shown_size tag ≡ Some each → 0 < left
    → 0 < length bytes → front ≡ take each bytes → rest ≡ drop each bytes → IsElementText tag front element
    → MoreElements tag (left - 1) rest more → MoreElements tag left bytes (codes ", " ++ (element ++ more))
unfolding MoreElements
one_more tag each zero bytes front rest element more is one some at after here there = absurd (omega arith)
one_more tag each (suc left) [] front rest element more is one some at after here there = absurd (omega arith)
one_more tag each (suc left) (b ∷ bs) front rest element more is one some at after here there =
    let same = sym (size_is tag each is).0 in
    let less : suc left - 1 ≡ left = omega arith in
    let taken = at ∙ ap (λ n. take n (b ∷ bs)) same in
    let dropped = after ∙ ap (λ n. drop n (b ∷ bs)) same in (
      element,
      more,
      subst (λ xs. IsElementText tag xs element) taken here,
      subst (λ xs. MoreElements tag left xs more) dropped (subst (λ n. MoreElements tag n rest more) less there),
      refl,
    )

-- ---- texts in pieces

-- what std's calls that append ensure
pub appended : {T E : Type 0} (r : Result T E) (old new text : List ℕ) → new ≡ (if is_ok r then old ++ text else old)
    → OnOk r (new ≡ old ++ text)
appended (Ok x) old new text is = is
appended (Err e) old new text is = tt

pub two_pieces : (old mid new a b : List ℕ) → mid ≡ old ++ a → new ≡ mid ++ b → new ≡ old ++ (a ++ b)
two_pieces old mid new a b p q = q ∙ ap (λ x. x ++ b) p ∙ append_assoc old a b

pub three_pieces : (old mid later new a b c : List ℕ) → mid ≡ old ++ a → later ≡ mid ++ b → new ≡ later ++ c
    → new ≡ old ++ (a ++ (b ++ c))
three_pieces old mid later new a b c p q r = two_pieces old mid new a (b ++ c) p (two_pieces mid later new b c q r)
