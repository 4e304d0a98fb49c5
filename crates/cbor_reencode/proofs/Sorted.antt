-- If the pairs of a map are re-encoded (`PairsAre`) and then put in another order (`IsPermutation`), their bytes are
-- the pairs of the same map (`Ordered`). `reduced_pairs` of two joined lists of pairs joins the reduced pairs of both.
use Rattle.std.proofs.Common.{◌≡◌, ℕ, suc, List, [], ◌∷◌, ◌++◌, length, refl, sym, ap, subst, ◌∙◌, append_assoc}
use Rattle.std.specs.List.Sorted.{IsPermutation}
use Rattle.cbor_grammar.specs.Item.{Item, Pairs, no_pairs, pair, pair_count}
use Rattle.cbor_grammar.specs.Bytes.{strict, Spells, SpellsPairs}
use Rattle.cbor_grammar.specs.Reading.{joined_pairs}
use Rattle.cbor_rules.specs.declared.rules.Rules.{Rules}
use Rattle.cbor_rules.specs.Same.{SamePairs}
use Rattle.cbor_reencode.specs.declared.pairs.Pair.{Pair}
use Rattle.cbor_reencode.specs.Reduction.{reduced_item, reduced_pairs}
use Rattle.cbor_reencode.specs.mirror.Rewritten.{PairsAre, pair_bytes}
use Rattle.cbor_reencode.proofs.Removals.{Removes, removes}

-- a pair that is this key and this value
record Writes (level : ℕ) (k v : Item) (p : Pair) : Type 0 where
  pub key : Spells strict level p.key.items k
  pub value : Spells strict level p.value.items v

module _ (rules : Rules) (level : ℕ) where
  abbrev WritesAre : Pairs → List Pair → Type 0
  WritesAre no_pairs [] = Unit {0}
  WritesAre (pair k v ps) (x ∷ xs) = Writes level k v x × WritesAre ps xs
  WritesAre ps xs = ⊥

  -- ---- two lists of pairs

  record Split (qs : Pairs) (xs ys : List Pair) : Type 0 where
    pub before : Pairs
    pub after : Pairs
    pub parts : qs ≡ joined_pairs before after
    pub firsts : WritesAre before xs
    pub lasts : WritesAre after ys

  split : (xs ys : List Pair) (qs : Pairs) → WritesAre qs (xs ++ ys) → Split qs xs ys
  split [] ys qs h = record { before = no_pairs; after = qs; parts = refl; firsts = tt; lasts = h }
  split (x ∷ xs) ys no_pairs h = absurd h
  split (x ∷ xs) ys (pair k v qs) h =
      let s = split xs ys qs h.1 in
      record {
        before = pair k v s.before;
        after = s.after;
        parts = ap (λ (q : Pairs). pair k v q) s.parts;
        firsts = (h.0, s.firsts);
        lasts = s.lasts;
      }

  join : (xs ys : List Pair) (ps qs : Pairs) → WritesAre ps xs → WritesAre qs ys
      → WritesAre (joined_pairs ps qs) (xs ++ ys)
  join [] ys no_pairs qs h g = g
  join [] ys (pair k v ps) qs h g = absurd h
  join (x ∷ xs) ys no_pairs qs h g = absurd h
  join (x ∷ xs) ys (pair k v ps) qs h g = (h.0, join xs ys ps qs h.1 g)

  -- ---- the same pairs

  pub reduced_joined : (ps qs : Pairs) → reduced_pairs rules (joined_pairs ps qs)
      ≡ joined_pairs (reduced_pairs rules ps) (reduced_pairs rules qs)
  reduced_joined no_pairs qs = refl
  reduced_joined (pair k v ps) qs =
      ap (λ (q : Pairs). pair (reduced_item rules k) (reduced_item rules v) q) (reduced_joined ps qs)

  record Moved (ps : Pairs) (ys : List Pair) : Type 0 where
    pub pairs : Pairs
    pub are : WritesAre pairs ys
    pub same : SamePairs rules.shortest_floats (reduced_pairs rules ps) (reduced_pairs rules pairs)

  moved : (ps : Pairs) (xs ys : List Pair) → PairsAre rules level ps xs → Removes xs ys → Moved ps ys
  moved no_pairs [] ys are h = record {
    pairs = no_pairs;
    are = subst (λ (k : List Pair). WritesAre no_pairs k) (sym h) tt;
    same = refl;
  }
  moved no_pairs (x ∷ xs) ys are h = absurd are
  moved (pair k v ps) [] ys are h = absurd are
  moved (pair k v ps) (x ∷ xs) ys are h =
      let m = moved ps xs (h.0 ++ h.1) are.1 h.3 in
      let s = split h.0 h.1 m.pairs m.are in
      let key = are.0.key in
      let value = are.0.value in
      let one : Writes level key.item value.item x = record {
        key = key.spells;
        value = value.spells;
      } in
      record {
        pairs = joined_pairs s.before (pair key.item value.item s.after);
        are = subst (λ (l : List Pair). WritesAre (joined_pairs s.before (pair key.item value.item s.after)) l)
            (sym h.2) (join h.0 (x ∷ h.1) s.before (pair key.item value.item s.after) s.firsts (one, s.lasts));
        same = (
          reduced_pairs rules s.before,
          reduced_pairs rules s.after,
          reduced_item rules key.item,
          reduced_item rules value.item,
          reduced_joined s.before (pair key.item value.item s.after),
          key.same,
          value.same,
          subst (λ (q : Pairs). SamePairs rules.shortest_floats (reduced_pairs rules ps) q)
              (ap (λ (q : Pairs). reduced_pairs rules q) s.parts ∙ reduced_joined s.before s.after) m.same,
        );
      }

  -- ---- what they spell

  spelled : (qs : Pairs) (ys : List Pair) (end : List ℕ) → WritesAre qs ys
      → SpellsPairs strict level (pair_bytes ys ++ end) qs end
  spelled no_pairs [] end h = refl
  spelled no_pairs (y ∷ ys) end h = absurd h
  spelled (pair k v qs) [] end h = absurd h
  spelled (pair k v qs) (y ∷ ys) end h = (
    y.key.items,
    y.value.items,
    pair_bytes ys ++ end,
    append_assoc (y.key.items ++ y.value.items) (pair_bytes ys) end
        ∙ append_assoc y.key.items y.value.items (pair_bytes ys ++ end),
    h.0.key,
    h.0.value,
    spelled qs ys end h.1,
  )

  number : (qs : Pairs) (ys : List Pair) → WritesAre qs ys → pair_count qs ≡ length ys
  number no_pairs [] h = refl
  number no_pairs (y ∷ ys) h = absurd h
  number (pair k v qs) [] h = absurd h
  number (pair k v qs) (y ∷ ys) h = ap suc (number qs ys h.1)

  -- ---- all of it

  pub record Ordered (ps : Pairs) (ys : List Pair) : Type 0 where
    pub pairs : Pairs
    pub spells : (end : List ℕ) → SpellsPairs strict level (pair_bytes ys ++ end) pairs end
    pub number : pair_count pairs ≡ length ys
    pub same : SamePairs rules.shortest_floats (reduced_pairs rules ps) (reduced_pairs rules pairs)

  pub ordered : (ps : Pairs) (xs ys : List Pair) → PairsAre rules level ps xs → IsPermutation xs ys
      → Ordered ps ys
  ordered ps xs ys are moves =
      let m = moved ps xs ys are (removes xs ys moves) in
      record {
        pairs = m.pairs;
        spells = λ end. spelled m.pairs ys end m.are;
        number = number m.pairs ys m.are;
        same = m.same;
      }
