-- Sorting the keys of maps: a permutation of a list has each element of it, and each can be taken out in turn until
-- none is left.
use Rattle.std.proofs.Common.{◌≡◌, ℕ, zero, suc, ◌<◌, ◌⊎◌, List, [], ◌∷◌, ◌++◌, length, get_or, inl, inr, refl, sym, ap}
use Rattle.std.proofs.Common.{subst, ◌∙◌, append_assoc, arith}
use Rattle.std.proofs.Math.ListN.{set}
use Rattle.std.proofs.lemmas.List.Edits.{swap_is}
use Rattle.std.proofs.lemmas.List.Sorted.{IsPermutation-keeps}
use Rattle.std.specs.List.{swap}
use Rattle.std.specs.List.Sorted.{IsPermutation}

module _ {X : Type 0} where
  -- each element of the first is taken out of the second, and none is left
  abbrev pub Removes : List X → List X → Type 0
  Removes [] ys = ys ≡ []
  Removes (x ∷ xs) ys = (before after : List X) × (ys ≡ before ++ (x ∷ after)) × Removes xs (before ++ after)

  pub removes_same : (xs : List X) → Removes xs xs
  removes_same [] = refl
  removes_same (x ∷ xs) = ([], xs, refl, removes_same xs)

  -- ---- where an element is

  -- two elements of a list: they are at one place, the first is before the second, or behind it
  data Places (u v p q : List X) (a x : X) : Type 0 where
    one : u ≡ p → a ≡ x → v ≡ q → Places u v p q a x
    ahead : (m : List X) → p ≡ u ++ (a ∷ m) → v ≡ m ++ (x ∷ q) → Places u v p q a x
    behind : (m : List X) → u ≡ p ++ (x ∷ m) → q ≡ m ++ (a ∷ v) → Places u v p q a x

  first_of_list : (a b : X) (xs ys : List X) → (a ∷ xs) ≡ b ∷ ys → a ≡ b
  first_of_list a b xs ys e = cc

  rest_of_list : (a b : X) (xs ys : List X) → (a ∷ xs) ≡ b ∷ ys → xs ≡ ys
  rest_of_list a b xs ys e = cc

  places : (u v p q : List X) (a x : X) → u ++ (a ∷ v) ≡ p ++ (x ∷ q) → Places u v p q a x
  places [] v [] q a x e = one refl (first_of_list a x v q e) (rest_of_list a x v q e)
  places [] v (y ∷ p) q a x e =
      ahead p (ap (λ z. z ∷ p) (sym (first_of_list a y v (p ++ (x ∷ q)) e))) (rest_of_list a y v (p ++ (x ∷ q)) e)
  places (y ∷ u) v [] q a x e =
      behind u (ap (λ z. z ∷ u) (first_of_list y x (u ++ (a ∷ v)) q e)) (sym (rest_of_list y x (u ++ (a ∷ v)) q e))
  places (y ∷ u) v (z ∷ p) q a x e =
      let same = first_of_list y z (u ++ (a ∷ v)) (p ++ (x ∷ q)) e in
      more same (places u v p q a x (rest_of_list y z (u ++ (a ∷ v)) (p ++ (x ∷ q)) e))
    where
      more : y ≡ z → Places u v p q a x → Places (y ∷ u) v (z ∷ p) q a x
      more same (one b c d) = one (ap (λ k. k ∷ u) same ∙ ap (λ k. z ∷ k) b) c d
      more same (ahead m b c) = ahead m (ap (λ k. k ∷ p) (sym same) ∙ ap (λ k. y ∷ k) b) c
      more same (behind m b c) = behind m (ap (λ k. k ∷ u) same ∙ ap (λ k. z ∷ k) b) c

  -- the same where the first is between two elements
  gap : (u v p q : List X) (x : X) → u ++ v ≡ p ++ (x ∷ q)
      → ((m : List X) × (p ≡ u ++ m) × (v ≡ m ++ (x ∷ q))) ⊎ ((m : List X) × (u ≡ p ++ (x ∷ m)) × (q ≡ m ++ v))
  gap [] v p q x e = inl (p, refl, e)
  gap (y ∷ u) v [] q x e =
      inr (u, ap (λ z. z ∷ u) (first_of_list y x (u ++ v) q e), sym (rest_of_list y x (u ++ v) q e))
  gap (y ∷ u) v (z ∷ p) q x e =
      let same = first_of_list y z (u ++ v) (p ++ (x ∷ q)) e in
      elim (gap u v p q x (rest_of_list y z (u ++ v) (p ++ (x ∷ q)) e)) [
        | inl h ↦ inl (h.0, ap (λ k. k ∷ p) (sym same) ∙ ap (λ k. y ∷ k) h.1, h.2)
        | inr h ↦ inr (h.0, ap (λ k. k ∷ u) same ∙ ap (λ k. z ∷ k) h.1, h.2)
      ]

  -- ---- one element more on both sides, and one less

  pub put_in : (b c u v : List X) (a : X) → Removes (b ++ c) (u ++ v) → Removes (b ++ (a ∷ c)) (u ++ (a ∷ v))
  put_in [] c u v a h = (u, v, refl, h)
  put_in (x ∷ b) c u v a h =
      elim (gap u v h.0 h.1 x h.2) [
        | inl g ↦
            let in_place : Removes (b ++ c) (u ++ (g.0 ++ h.1)) =
            subst (λ (k : List X). Removes (b ++ c) k) (ap (λ (k : List X). k ++ h.1) g.1 ∙ append_assoc u g.0 h.1) h.3
            in (
              u ++ (a ∷ g.0),
              h.1,
              ap (λ (k : List X). u ++ (a ∷ k)) g.2 ∙ sym (append_assoc u (a ∷ g.0) (x ∷ h.1)),
              subst (λ (k : List X). Removes (b ++ (a ∷ c)) k) (sym (append_assoc u (a ∷ g.0) h.1))
                  (put_in b c u (g.0 ++ h.1) a in_place),
            )
        | inr g ↦
            let in_place : Removes (b ++ c) ((h.0 ++ g.0) ++ v) =
            subst (λ (k : List X). Removes (b ++ c) k)
            (ap (λ (k : List X). h.0 ++ k) g.2 ∙ sym (append_assoc h.0 g.0 v)) h.3
            in (
              h.0,
              g.0 ++ (a ∷ v),
              ap (λ (k : List X). k ++ (a ∷ v)) g.1 ∙ append_assoc h.0 (x ∷ g.0) (a ∷ v),
              subst (λ (k : List X). Removes (b ++ (a ∷ c)) k) (append_assoc h.0 g.0 (a ∷ v))
                  (put_in b c (h.0 ++ g.0) v a in_place),
            )
      ]

  record Taken (xs u v : List X) (a : X) : Type 0 where
    pub before : List X
    pub after : List X
    pub parts : xs ≡ before ++ (a ∷ after)
    pub others : Removes (before ++ after) (u ++ v)

  -- what is taken out of the rest of a list, if x is before it
  ahead_of : (x : X) (xs u v q m : List X) (a : X) → v ≡ m ++ (x ∷ q) → Taken xs u (m ++ q) a → Taken (x ∷ xs) u v a
  ahead_of x xs u v q m a e t = record {
    before = x ∷ t.before;
    after = t.after;
    parts = ap (λ k. x ∷ k) t.parts;
    others = (
      u ++ m,
      q,
      ap (λ (k : List X). u ++ k) e ∙ sym (append_assoc u m (x ∷ q)),
      subst (λ (k : List X). Removes (t.before ++ t.after) k) (sym (append_assoc u m q)) t.others,
    );
  }

  behind_it : (x : X) (xs u v p m : List X) (a : X) → u ≡ p ++ (x ∷ m) → Taken xs (p ++ m) v a → Taken (x ∷ xs) u v a
  behind_it x xs u v p m a e t = record {
    before = x ∷ t.before;
    after = t.after;
    parts = ap (λ k. x ∷ k) t.parts;
    others = (
      p,
      m ++ v,
      ap (λ (k : List X). k ++ v) e ∙ append_assoc p (x ∷ m) v,
      subst (λ (k : List X). Removes (t.before ++ t.after) k) (append_assoc p m v) t.others,
    );
  }

  take_out : (xs u v : List X) (a : X) → Removes xs (u ++ (a ∷ v)) → Taken xs u v a
  take_out [] [] v a h = absurd cc
  take_out [] (y ∷ u) v a h = absurd cc
  take_out (x ∷ xs) u v a h =
      elim (places u v h.0 h.1 a x h.2) [
        | one p e q ↦ record {
          before = [];
          after = xs;
          parts = ap (λ k. k ∷ xs) (sym e);
          others = subst (λ (k : List X). Removes xs (k ++ v)) (sym p)
              (subst (λ (k : List X). Removes xs (h.0 ++ k)) (sym q) h.3);
        }
        | ahead m p q ↦ ahead_of x xs u v h.1 m a q (take_out xs u (m ++ h.1) a
            (subst (λ (k : List X). Removes xs k) (ap (λ (k : List X). k ++ h.1) p ∙ append_assoc u (a ∷ m) h.1) h.3))
        | behind m p q ↦ behind_it x xs u v h.0 m a p (take_out xs (h.0 ++ m) v a (subst (λ (k : List X). Removes xs k)
            (ap (λ (k : List X). h.0 ++ k) q ∙ sym (append_assoc h.0 m (a ∷ v))) h.3))
      ]

  -- ---- two elements in each other's place

  exchanged : (xs p q r : List X) (a c : X) → Removes xs (p ++ (a ∷ (q ++ (c ∷ r))))
      → Removes xs (p ++ (c ∷ (q ++ (a ∷ r))))
  exchanged xs p q r a c h =
      let s = take_out xs p (q ++ (c ∷ r)) a h in
      let t = take_out (s.before ++ s.after) (p ++ q) r c
      (subst (λ (k : List X). Removes (s.before ++ s.after) k) (sym (append_assoc p q (c ∷ r))) s.others) in
      let back = put_in t.before t.after p (q ++ r) c
      (subst (λ (k : List X). Removes (t.before ++ t.after) k) (append_assoc p q r) t.others) in
      let both : Removes (s.before ++ s.after) ((p ++ (c ∷ q)) ++ r) =
      subst (λ (k : List X). Removes k ((p ++ (c ∷ q)) ++ r)) (sym t.parts)
      (subst (λ (k : List X). Removes (t.before ++ (c ∷ t.after)) k) (sym (append_assoc p (c ∷ q) r)) back) in
      subst (λ (k : List X). Removes k (p ++ (c ∷ (q ++ (a ∷ r))))) (sym s.parts)
      (subst (λ (k : List X). Removes (s.before ++ (a ∷ s.after)) k) (append_assoc p (c ∷ q) (a ∷ r))
      (put_in s.before s.after (p ++ (c ∷ q)) r a both))

  record SetAt (ys : List X) (i : ℕ) (d : X) : Type 0 where
    pub before : List X
    pub after : List X
    pub parts : ys ≡ before ++ (get_or ys i d ∷ after)
    pub is : set ys i d ≡ before ++ (d ∷ after)

  set_at : (ys : List X) (i : ℕ) (d : X) → i < length ys → SetAt ys i d
  set_at [] i d lt = absurd (omega arith)
  set_at (y ∷ ys) zero d lt = record { before = []; after = ys; parts = refl; is = refl }
  set_at (y ∷ ys) (suc i) d lt =
      let s = set_at ys i d (omega arith) in
      record {
        before = y ∷ s.before;
        after = s.after;
        parts = ap (λ k. y ∷ k) s.parts;
        is = ap (λ k. y ∷ k) s.is;
      }

  removes_first : (xs p ys : List X) (i : ℕ) (d : X) → i < length ys → Removes xs (p ++ (d ∷ ys))
      → Removes xs (p ++ (get_or ys i d ∷ set ys i d))
  removes_first xs p ys i d lt h =
      let s = set_at ys i d lt in
      subst (λ (k : List X). Removes xs (p ++ (get_or ys i d ∷ k))) (sym s.is)
      (exchanged xs p s.before s.after d (get_or ys i d)
      (subst (λ (k : List X). Removes xs (p ++ (d ∷ k))) s.parts h))

  swapped : (xs p l : List X) (i j : ℕ) → i < length l → j < length l → Removes xs (p ++ l)
      → Removes xs (p ++ swap l i j)
  swapped xs p [] i j lt less h = h
  swapped xs p (d ∷ ys) zero zero lt less h = h
  swapped xs p (d ∷ ys) zero (suc j) lt less h = removes_first xs p ys j d (omega arith) h
  swapped xs p (d ∷ ys) (suc i) zero lt less h = removes_first xs p ys i d (omega arith) h
  swapped xs p (d ∷ ys) (suc i) (suc j) lt less h =
      let le : i < length ys = omega arith in
      let inner = swapped xs (p ++ (d ∷ [])) ys i j le (omega arith)
      (subst (λ (k : List X). Removes xs k) (sym (append_assoc p (d ∷ []) ys)) h) in
      subst (λ (k : List X). Removes xs (p ++ (d ∷ k))) (sym (swap_is ys i j d le (omega arith)))
      (subst (λ (k : List X). Removes xs k) (append_assoc p (d ∷ []) (swap ys i j)) inner)

  pub removes : (xs ys : List X) → IsPermutation xs ys → Removes xs ys
  removes xs ys h =
      IsPermutation-keeps xs (λ (l : List X). Removes xs l) (removes_same xs)
      (λ l i j lt less kept. swapped xs [] l i j lt less kept) ys h
