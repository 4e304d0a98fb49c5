-- For values that a `read` gives in sequence (`After`), if each takes at least one byte: the same number of values
-- always leaves the same bytes, and a byte is in at most one of the values. After values that end before a byte, the
-- value that ends behind this byte comes next, or another one is read first.
use Rattle.std.proofs.Common.{◌≡◌, ℕ, zero, suc, ◌+◌, ◌<◌, ◌≤◌, List, length, Ok, Err, sym, ap, subst, ◌⊎◌, inl, inr}
use Rattle.std.proofs.Common.{◌∙◌, arith}
use Rattle.std.proofs.lemmas.Bool.{cases_lt}
use Rattle.cbor_grammar.specs.declared.error.Error.{Error}
use Rattle.cbor_grammar.specs.Reading.{Read}
use Rattle.cbor_trace.specs.Around.{After, EndsBehind}

pub one_value : {X : Type 0} (read : Read X) (x y : X × List ℕ) → read ≡ Ok x → read ≡ Ok y → x ≡ y
one_value read x y e f = cc

pub no_value : {X : Type 0} (read : Read X) (x : X × List ℕ) (e : Error) → read ≡ Err e → read ≡ Ok x → ⊥
no_value read x e fails is = cc

pub same_read : {X : Type 0} (read : Read X) (x y : X) (r s : List ℕ) → read ≡ Ok (x, r) → read ≡ Ok (y, s) → r ≡ s
same_read {X = X} read x y r s e f = ap (λ (t : X × List ℕ). t.1) (one_value read (x, r) (y, s) e f)

-- each value takes bytes
abbrev pub TakesBytes : {X : Type 0} → (List ℕ → Read X) → Type 0
TakesBytes {X = X} read = (b : List ℕ) (x : X) (rest : List ℕ) → read b ≡ Ok (x, rest) → length rest < length b

-- as many values leave the same bytes
pub same_rest : {X : Type 0} (read : List ℕ → Read X) (k : ℕ) (b r s : List ℕ) → After read k b r → After read k b s
    → r ≡ s
same_rest read zero b r s h g = sym h ∙ g
same_rest read (suc k) b r s h g =
    let mid = same_rest read k b h.0 g.0 h.2 g.2 in
    same_read (read h.0) h.1 g.1 r s h.3 (ap read mid ∙ g.3)

-- after fewer values one more is read, up to where the others begin or before
pub next_value : {X : Type 0} (read : List ℕ → Read X) → TakesBytes read → (k m : ℕ) (b r s : List ℕ)
    → After read k b r → After read m b s → k < m
    → (x : X) × (t : List ℕ) × (read r ≡ Ok (x, t)) × (length s ≤ length t)
next_value read takes k zero b r s h g lt = absurd (omega arith)
next_value read takes k (suc m) b r s h g lt =
    elim (cases_lt k m) [
      | inl less ↦
          let n = next_value read takes k m b r g.0 h g.2 less in
          let shorter = takes g.0 g.1 s g.3 in
          (n.0, n.1, n.2, omega (arith, n.3, shorter))
      | inr ge ↦
          let e : m ≡ k = omega arith in
          let same = same_rest read k b r g.0 h (subst (λ (j : ℕ). After read j b g.0) e g.2) in
          (g.1, s, ap read same ∙ g.3, omega arith)
    ]

-- values leave no more than there was
pub values_leave : {X : Type 0} (read : List ℕ → Read X) → TakesBytes read → (k : ℕ) (b r : List ℕ)
    → After read k b r → length r ≤ length b
values_leave read takes zero b r h = let e : length b ≡ length r = ap length h in omega (arith, e)
values_leave read takes (suc k) b r h =
    omega (arith, values_leave read takes k b h.0 h.2, takes h.0 h.1 r h.3)

-- no byte that is after a value is in one before it
pub no_earlier : {X : Type 0} (read : List ℕ → Read X) → TakesBytes read → (total at k m : ℕ) (inner r s : List ℕ)
    → After read k inner r → After read m inner s → total ≤ at + length s → EndsBehind total read at r → k < m → ⊥
no_earlier read takes total at k m inner r s h g passed to lt =
    let n = next_value read takes k m inner r s h g lt in
    let behind = to n.0 n.1 n.2 in
    omega (arith, n.3, behind)

module _ {X : Type 0} (read : List ℕ → Read X) (takes : TakesBytes read) (total at : ℕ) where
  -- Values that end before the byte leave the one that it is in, or one more is read before that.
  pub here_or_later : (k m : ℕ) (inner r s : List ℕ) → After read k inner r → After read m inner s
      → total ≤ at + length r → EndsBehind total read at s
      → ((k ≡ m) × (r ≡ s)) ⊎ ((k < m) × (x : X) × (t : List ℕ) × (read r ≡ Ok (x, t)))
  here_or_later k m inner r s h g passed to =
      elim (cases_lt m k) [
        | inl lt ↦ absurd (no_earlier read takes total at m k inner s r g h passed to lt)
        | inr ge ↦ elim (cases_lt k m) [
          | inl gt ↦ let n = next_value read takes k m inner r s h g gt in inr (gt, n.0, n.1, n.2)
          | inr le ↦
              let e : k ≡ m = omega arith in
              inl (e, same_rest read k inner r s h (subst (λ (j : ℕ). After read j inner s) (sym e) g))
        ]
      ]

  -- The byte is in one of them.
  pub same_place : (k m : ℕ) (inner r s : List ℕ) → After read k inner r → After read m inner s
      → total ≤ at + length r → total ≤ at + length s → EndsBehind total read at r → EndsBehind total read at s
      → (k ≡ m) × (r ≡ s)
  same_place k m inner r s h g before after from to =
      elim (here_or_later k m inner r s h g before to) [
        | inl here ↦ here
        | inr later ↦ absurd (no_earlier read takes total at k m inner r s h g after from later.0)
      ]
