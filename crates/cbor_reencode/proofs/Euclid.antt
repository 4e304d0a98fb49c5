-- Two items are the same (`IsSame`) if both are the same as a third item, or if a third item is the same as both.
use Rattle.std.proofs.Common.{◌≡◌, ◌⊎◌, Bool, inl, inr, refl, sym, ap, subst, ◌∙◌}
use Rattle.cbor_grammar.specs.Item as spec
use Rattle.cbor_grammar.specs.Item.{Item, atom, array, tagged, Items, no_items, item, Pairs, no_pairs, pair}
use Rattle.cbor_grammar.specs.Reading.{joined_pairs}
use Rattle.cbor_rules.specs.Same.{IsSame, SameItems, SamePairs}
use Rattle.cbor_reencode.proofs.Kept.{same_item}
use Rattle.cbor_reencode.proofs.Unreduced.{first_key, first_value, other_pairs}

-- ---- where a pair is

joined_again : (u m v : Pairs) → joined_pairs (joined_pairs u m) v ≡ joined_pairs u (joined_pairs m v)
joined_again no_pairs m v = refl
joined_again (pair k y u) m v = ap (λ (q : Pairs). pair k y q) (joined_again u m v)

-- a pair of two sequences is in the second or in the first
gap : (u v p q : Pairs) (k x : Item) → joined_pairs u v ≡ joined_pairs p (pair k x q)
    → ((m : Pairs) × (p ≡ joined_pairs u m) × (v ≡ joined_pairs m (pair k x q)))
    ⊎ ((m : Pairs) × (u ≡ joined_pairs p (pair k x m)) × (q ≡ joined_pairs m v))
gap no_pairs v p q k x e = inl (p, refl, e)
gap (pair l y u) v no_pairs q k x e = inr (
  u,
  ap (λ (i : Item). pair i y u) (first_key l k y x (joined_pairs u v) q e)
      ∙ ap (λ (i : Item). pair k i u) (first_value l k y x (joined_pairs u v) q e),
  sym (other_pairs l k y x (joined_pairs u v) q e),
)
gap (pair l y u) v (pair m z p) q k x e =
    let rest = joined_pairs p (pair k x q) in
    let key = first_key l m y z (joined_pairs u v) rest e in
    let value = first_value l m y z (joined_pairs u v) rest e in
    elim (gap u v p q k x (other_pairs l m y z (joined_pairs u v) rest e)) [
      | inl h ↦ inl (
        h.0,
        ap (λ (i : Item). pair i z p) (sym key) ∙ ap (λ (i : Item). pair l i p) (sym value)
            ∙ ap (λ (r : Pairs). pair l y r) h.1,
        h.2,
      )
      | inr h ↦ inr (
        h.0,
        ap (λ (i : Item). pair i y u) key ∙ ap (λ (i : Item). pair m i u) value ∙ ap (λ (r : Pairs). pair m z r) h.1,
        h.2,
      )
    ]

module _ (floats : Bool) where
  -- one pair more in both
  put_same : (b c u v : Pairs) (l w m x : Item) → IsSame floats l m → IsSame floats w x
      → SamePairs floats (joined_pairs b c) (joined_pairs u v)
      → SamePairs floats (joined_pairs b (pair l w c)) (joined_pairs u (pair m x v))
  put_same no_pairs c u v l w m x key value h = (u, v, m, x, refl, key, value, h)
  put_same (pair k y b) c u v l w m x key value h =
      elim (gap u v h.0 h.1 h.2 h.3 h.4) [
        | inl g ↦
            let inner : SamePairs floats (joined_pairs b c) (joined_pairs u (joined_pairs g.0 h.1)) =
            subst (λ (q : Pairs). SamePairs floats (joined_pairs b c) q)
            (ap (λ (q : Pairs). joined_pairs q h.1) g.1 ∙ joined_again u g.0 h.1) h.7 in (
              joined_pairs u (pair m x g.0),
              h.1,
              h.2,
              h.3,
              ap (λ (q : Pairs). joined_pairs u (pair m x q)) g.2
                  ∙ sym (joined_again u (pair m x g.0) (pair h.2 h.3 h.1)),
              h.5,
              h.6,
              subst (λ (q : Pairs). SamePairs floats (joined_pairs b (pair l w c)) q)
                  (sym (joined_again u (pair m x g.0) h.1))
                  (put_same b c u (joined_pairs g.0 h.1) l w m x key value inner),
            )
        | inr g ↦
            let inner : SamePairs floats (joined_pairs b c) (joined_pairs (joined_pairs h.0 g.0) v) =
            subst (λ (q : Pairs). SamePairs floats (joined_pairs b c) q)
            (ap (λ (q : Pairs). joined_pairs h.0 q) g.2 ∙ sym (joined_again h.0 g.0 v)) h.7 in (
              h.0,
              joined_pairs g.0 (pair m x v),
              h.2,
              h.3,
              ap (λ (q : Pairs). joined_pairs q (pair m x v)) g.1 ∙ joined_again h.0 (pair h.2 h.3 g.0) (pair m x v),
              h.5,
              h.6,
              subst (λ (q : Pairs). SamePairs floats (joined_pairs b (pair l w c)) q)
                  (joined_again h.0 g.0 (pair m x v))
                  (put_same b c (joined_pairs h.0 g.0) v l w m x key value inner),
            )
      ]

  mutual
    pub same_both : (y a b : Item) → IsSame floats y a → IsSame floats y b → IsSame floats a b
    same_both (atom z) (atom a) (atom b) s t = sym s ∙ t
    same_both (array is w) (array js v) (array ks u) s t = same_both_items is js ks s t
    same_both (spec.map ps w) (spec.map qs v) (spec.map rs u) s t = same_both_pairs ps qs rs s t
    same_both (tagged m w y) (tagged n v i) (tagged o u j) s t = (sym s.0 ∙ t.0, same_both y i j s.1 t.1)
    same_both (atom z) (array js v) b s t = absurd s
    same_both (atom z) (spec.map qs v) b s t = absurd s
    same_both (atom z) (tagged n v i) b s t = absurd s
    same_both (atom z) (atom a) (array ks u) s t = absurd t
    same_both (atom z) (atom a) (spec.map rs u) s t = absurd t
    same_both (atom z) (atom a) (tagged o u j) s t = absurd t
    same_both (array is w) (atom a) b s t = absurd s
    same_both (array is w) (spec.map qs v) b s t = absurd s
    same_both (array is w) (tagged n v i) b s t = absurd s
    same_both (array is w) (array js v) (atom b) s t = absurd t
    same_both (array is w) (array js v) (spec.map rs u) s t = absurd t
    same_both (array is w) (array js v) (tagged o u j) s t = absurd t
    same_both (spec.map ps w) (atom a) b s t = absurd s
    same_both (spec.map ps w) (array js v) b s t = absurd s
    same_both (spec.map ps w) (tagged n v i) b s t = absurd s
    same_both (spec.map ps w) (spec.map qs v) (atom b) s t = absurd t
    same_both (spec.map ps w) (spec.map qs v) (array ks u) s t = absurd t
    same_both (spec.map ps w) (spec.map qs v) (tagged o u j) s t = absurd t
    same_both (tagged m w y) (atom a) b s t = absurd s
    same_both (tagged m w y) (array js v) b s t = absurd s
    same_both (tagged m w y) (spec.map qs v) b s t = absurd s
    same_both (tagged m w y) (tagged n v i) (atom b) s t = absurd t
    same_both (tagged m w y) (tagged n v i) (array ks u) s t = absurd t
    same_both (tagged m w y) (tagged n v i) (spec.map rs u) s t = absurd t

    same_both_items : (is js ks : Items) → SameItems floats is js → SameItems floats is ks → SameItems floats js ks
    same_both_items no_items no_items no_items s t = tt
    same_both_items (item i is) (item j js) (item k ks) s t =
        (same_both i j k s.0 t.0, same_both_items is js ks s.1 t.1)
    same_both_items no_items (item j js) ks s t = absurd s
    same_both_items no_items no_items (item k ks) s t = absurd t
    same_both_items (item i is) no_items ks s t = absurd s
    same_both_items (item i is) (item j js) no_items s t = absurd t

    same_both_pairs : (ps qs rs : Pairs) → SamePairs floats ps qs → SamePairs floats ps rs → SamePairs floats qs rs
    same_both_pairs no_pairs qs rs s t = subst (λ (q : Pairs). SamePairs floats q rs) (sym s) t
    same_both_pairs (pair k v ps) qs rs s t =
        let key = same_both k s.2 t.2 s.5 t.5 in
        let value = same_both v s.3 t.3 s.6 t.6 in
        let others = same_both_pairs ps (joined_pairs s.0 s.1) (joined_pairs t.0 t.1) s.7 t.7 in
        subst (λ (q : Pairs). SamePairs floats q rs) (sym s.4)
        (subst (λ (q : Pairs). SamePairs floats (joined_pairs s.0 (pair s.2 s.3 s.1)) q) (sym t.4)
        (put_same s.0 s.1 t.0 t.1 s.2 s.3 t.2 t.3 key value others))

  -- items to which one item is the same
  pub same_to : (a b z : Item) → IsSame floats a z → IsSame floats b z → IsSame floats a b
  same_to a b z s t =
      same_both z a b (same_both a z a s (same_item floats a)) (same_both b z b t (same_item floats b))
