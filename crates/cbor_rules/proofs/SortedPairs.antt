-- If the rules order keys (`KeyOrder` is not `Any`), keys in that order differ (`KeysDiffer`), and two maps with the
-- same pairs in that order are equal (`same_set`).
use Rattle.std.proofs.Common.{◌≡◌, ◌≢◌, ℕ, List, length, refl, sym, ap, subst, ◌∙◌}
use Rattle.std.specs.declared.cmp.Ordering.TheVariants.{Less, Equal}
use Rattle.std.specs.Cmp.{IsTotalOrder}
use Rattle.std.proofs.lemmas.Cmp.{nat_cmp_total, nat_list_cmp_total, on_total, then_total, tied_itself}
use Rattle.cbor_grammar.specs.Item.{Item, Pairs, no_pairs, pair}
use Rattle.cbor_grammar.specs.Written.{encoded}
use Rattle.cbor_grammar.specs.Reading.{joined_pairs}
use Rattle.cbor_rules.specs.declared.rules.KeyOrder.{KeyOrder}
use Rattle.cbor_rules.specs.declared.rules.KeyOrder.TheVariants.{Any, Bytes, Length, MajorType}
use Rattle.cbor_rules.specs.KeyOrder.{key_cmp, major_type}
use Rattle.cbor_rules.specs.Keeps.{IsNoKey, KeysDiffer, KeysAfter, KeysInOrder}

total : (order : KeyOrder) → order ≢ Any → IsTotalOrder (key_cmp order)
total Any other = absurd (other refl)
total Bytes other = nat_list_cmp_total
total Length other = then_total (on_total (λ (k : List ℕ). length k) nat_cmp_total) nat_list_cmp_total
total MajorType other =
    then_total (on_total major_type nat_cmp_total)
    (then_total (on_total (λ (k : List ℕ). length k) nat_cmp_total) nat_list_cmp_total)

-- each pair of the first is one of the second
abbrev pub SameSet : Pairs → Pairs → Type 0
SameSet no_pairs qs = qs ≡ no_pairs
SameSet (pair k v ps) qs =
    (before after : Pairs) × (qs ≡ joined_pairs before (pair k v after)) × SameSet ps (joined_pairs before after)

-- each key comes after this one
abbrev AllAfter : KeyOrder → List ℕ → Pairs → Type 0
AllAfter order last no_pairs = Unit {0}
AllAfter order last (pair k v ps) = (key_cmp order last (encoded k) ≡ Less) × AllAfter order last ps

module _ (order : KeyOrder) (other : order ≢ Any) where
  all_after : (last : List ℕ) (ps : Pairs) → KeysAfter order last ps → AllAfter order last ps
  all_after last no_pairs h = tt
  all_after last (pair k v ps) h = (h.0, later (encoded k) ps h.0 (all_after (encoded k) ps h.1))
    where
      later : (next : List ℕ) (ps : Pairs) → key_cmp order last next ≡ Less → AllAfter order next ps
          → AllAfter order last ps
      later next no_pairs less h = tt
      later next (pair k v ps) less h =
          ((total order other).trans last next (encoded k) less h.0, later next ps less h.1)

  in_order : (last : List ℕ) (ps : Pairs) → KeysAfter order last ps → KeysInOrder order ps
  in_order last no_pairs h = tt
  in_order last (pair k v ps) h = h.1

  -- keys in order differ
  not_less : (x y : List ℕ) → key_cmp order x y ≡ Less → x ≢ y
  not_less x y less same =
      let equal : key_cmp order x x ≡ Equal = tied_itself (total order other) x in
      let itself : key_cmp order x x ≡ Less = subst (λ (z : List ℕ). key_cmp order x z ≡ Less) (sym same) less in
      absurd cc

  no_key : (x : List ℕ) (ps : Pairs) → AllAfter order x ps → IsNoKey x ps
  no_key x no_pairs h = tt
  no_key x (pair k v ps) h = (not_less x (encoded k) h.0, no_key x ps h.1)

  pub keys_differ : (ps : Pairs) → KeysInOrder order ps → KeysDiffer ps
  keys_differ no_pairs h = tt
  keys_differ (pair k v ps) h =
      (no_key (encoded k) ps (all_after (encoded k) ps h), keys_differ ps (in_order (encoded k) ps h))

  put_back : (last : List ℕ) (k v : Item) (before after : Pairs) → key_cmp order last (encoded k) ≡ Less
      → AllAfter order last (joined_pairs before after) → AllAfter order last (joined_pairs before (pair k v after))
  put_back last k v no_pairs after less h = (less, h)
  put_back last k v (pair l w before) after less h = (h.0, put_back last k v before after less h.1)

  taken_out : (last : List ℕ) (k v : Item) (before after : Pairs)
      → AllAfter order last (joined_pairs before (pair k v after)) → key_cmp order last (encoded k) ≡ Less
  taken_out last k v no_pairs after h = h.0
  taken_out last k v (pair l w before) after h = taken_out last k v before after h.1

  same_after : (last : List ℕ) (ps qs : Pairs) → SameSet ps qs → AllAfter order last ps → AllAfter order last qs
  same_after last no_pairs qs same h = subst (AllAfter order last) (sym same) tt
  same_after last (pair k v ps) qs same h =
      subst (AllAfter order last) (sym same.2)
      (put_back last k v same.0 same.1 h.0 (same_after last ps (joined_pairs same.0 same.1) same.3 h.1))

  pub same_set : (ps qs : Pairs) → KeysInOrder order ps → KeysInOrder order qs → SameSet ps qs → ps ≡ qs
  same_set no_pairs qs h g same = sym same
  same_set (pair k v ps) qs h g same =
      first (λ qs h g same. same_set ps qs h g same) same.0 same.1 same.3 (subst (KeysInOrder order) same.2 g)
      ∙ sym same.2
    where
      first : ((qs : Pairs) → KeysInOrder order ps → KeysInOrder order qs → SameSet ps qs → ps ≡ qs)
          → (before after : Pairs) → SameSet ps (joined_pairs before after)
          → KeysInOrder order (joined_pairs before (pair k v after))
          → pair k v ps ≡ joined_pairs before (pair k v after)
      first again no_pairs after same g =
          ap (pair k v) (again after (in_order (encoded k) ps h) (in_order (encoded k) after g) same)
      first again (pair l w before) after same g =
          let back = taken_out (encoded l) k v before after
          (all_after (encoded l) (joined_pairs before (pair k v after)) g) in
          let ahead = same_after (encoded k) ps (pair l w (joined_pairs before after)) same
          (all_after (encoded k) ps h) in
          let o = total order other in
          let less : key_cmp order (encoded l) (encoded l) ≡ Less =
          o.trans (encoded l) (encoded k) (encoded l) back ahead.0 in
          let equal : key_cmp order (encoded l) (encoded l) ≡ Equal = tied_itself o (encoded l) in
          absurd cc
