-- A text has at most one longest front of a kind (`IsLongest`). Two fronts of one text that have the same length are
-- equal.
use Rattle.std.proofs.Common.{◌≡◌, ℕ, List, ◌++◌, length, take, refl, sym, ap, ◌∙◌, arith}
use Rattle.std.proofs.lemmas.List.{append_cancel_left, take_at}
use Rattle.cbor_tokens.specs.Token.{IsLongest}

-- two fronts of one text that have one length are one
pub same_front : (front rest other after : List ℕ) → front ++ rest ≡ other ++ after → length front ≡ length other
    → front ≡ other
same_front front rest other after is same = sym (take_at front rest (length front) refl) ∙ ap (take (length front)) is
    ∙ take_at other after (length front) (sym same)

-- a text has one longest front of a kind
pub one_longest : (Is : List ℕ → Type 0) (front rest other after : List ℕ) → front ++ rest ≡ other ++ after
    → IsLongest Is front rest → IsLongest Is other after → (front ≡ other) × (rest ≡ after)
one_longest Is front rest other after is here there =
    let same : length front ≡ length other =
    omega (arith, here.no_longer other after is there.is, there.no_longer front rest (sym is) here.is) in
    let one = same_front front rest other after is same in
    (one, append_cancel_left other rest after (ap (λ (xs : List ℕ). xs ++ rest) (sym one) ∙ is))
