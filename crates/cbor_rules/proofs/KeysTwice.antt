-- If the rules ask for distinct keys, `twice_violation` finds no key again if and only if the keys of the map differ
-- (`KeysDiffer`). Shown one key at a time: the keys to come are `KeysFresh` if and only if the first of them has no
-- violation and, once it is seen, the others are `KeysFresh`.
use Rattle.std.proofs.Common.{◌≡◌, ◌≢◌, ℕ, Bool, true, false, cond, List, Option, Some, None, refl, sym, ap, subst, ◌∙◌}
use Rattle.std.proofs.Common.{true≢false}
use Rattle.std.proofs.lemmas.Bool.{false_from_ne_true}
use Rattle.std.specs.Cmp.Lexicographic.{bytes_decides}
use Rattle.std.specs.Prelude.{bytes_eq}
use Rattle.cbor_grammar.specs.Item.{Item, Pairs, no_pairs, pair}
use Rattle.cbor_grammar.specs.Written.{encoded}
use Rattle.cbor_rules.specs.declared.rules.Rules.{Rules}
use Rattle.cbor_rules.specs.FirstViolation.{KeyAt, Places, no_places, placed, twice, twice_violation, with_key}
use Rattle.cbor_rules.specs.Keeps.{IsNoKey, KeysDiffer}
use Rattle.cbor_rules.proofs.Heads.{tested, untested}

-- no key was seen
abbrev AllUnseen : Places → Pairs → Type 0
AllUnseen seen no_pairs = Unit {0}
AllUnseen seen (pair k v ps) = (seen (encoded k) ≡ None) × AllUnseen seen ps

abbrev pub Fresh : Places → Pairs → Type 0
Fresh seen ps = AllUnseen seen ps × KeysDiffer ps

-- the keys that are to come are fresh, if this is a rule
abbrev pub KeysFresh : Rules → Places → Pairs → Type 0
KeysFresh rules seen ps = rules.distinct_keys ≡ true → Fresh seen ps

not_this : (t : Bool) (place : ℕ) (o : Option ℕ) → cond t (Some place) o ≡ None → (t ≡ false) × (o ≡ None)
not_this true place o e = absurd cc
not_this false place o e = (refl, e)

differ : (x y : List ℕ) → bytes_eq x y ≡ false → x ≢ y
differ x y off = λ same. true≢false (sym ((bytes_decides x y).1 same) ∙ off)

unseen_out : (x : KeyAt) (seen : Places) (ps : Pairs) → AllUnseen (placed x seen) ps
    → IsNoKey x.bytes ps × AllUnseen seen ps
unseen_out x seen no_pairs h = (tt, tt)
unseen_out x seen (pair k v ps) h =
    let this = not_this (bytes_eq x.bytes (encoded k)) x.place (seen (encoded k)) h.0 in
    let more = unseen_out x seen ps h.1 in
    ((differ x.bytes (encoded k) this.0, more.0), (this.1, more.1))

unseen_in : (x : KeyAt) (seen : Places) (ps : Pairs) → IsNoKey x.bytes ps → AllUnseen seen ps
    → AllUnseen (placed x seen) ps
unseen_in x seen no_pairs other h = tt
unseen_in x seen (pair k v ps) other h =
    let off : bytes_eq x.bytes (encoded k) ≡ false =
    false_from_ne_true (bytes_eq x.bytes (encoded k))
    (λ on. other.0 ((bytes_decides x.bytes (encoded k)).0 on)) in
    (ap (λ (t : Bool). cond t (Some x.place) (seen (encoded k))) off ∙ h.0, unseen_in x seen ps other.1 h.1)

seen_none : (o : Option ℕ) → twice o ≡ None → o ≡ None
seen_none None e = refl
seen_none (Some place) e = absurd cc

with_is : (rules : Rules) (x : KeyAt) (seen : Places) → rules.distinct_keys ≡ true
    → with_key rules x seen ≡ placed x seen
with_is rules x seen on = ap (λ (t : Bool). cond t (placed x seen) seen) on

-- a key without a violation, and those after it
pub fresh_more : (rules : Rules) (seen : Places) (x : KeyAt) (k v : Item) (ps : Pairs) → x.bytes ≡ encoded k
    → twice_violation rules seen x.bytes ≡ None → KeysFresh rules (with_key rules x seen) ps
    → KeysFresh rules seen (pair k v ps)
fresh_more rules seen x k v ps is none fresh = λ on.
    let more = subst (λ (s : Places). Fresh s ps) (with_is rules x seen on) (fresh on) in
    let out = unseen_out x seen ps more.0 in
    let unseen = seen_none (seen x.bytes) (tested rules.distinct_keys (twice (seen x.bytes)) on none) in (
      (subst (λ (y : List ℕ). seen y ≡ None) is unseen, out.1),
      (subst (λ (y : List ℕ). IsNoKey y ps) is out.0, more.1),
    )

pub fresh_first : (rules : Rules) (seen : Places) (x : KeyAt) (k v : Item) (ps : Pairs) → x.bytes ≡ encoded k
    → KeysFresh rules seen (pair k v ps) → twice_violation rules seen x.bytes ≡ None
fresh_first rules seen x k v ps is fresh =
    untested rules.distinct_keys (twice (seen x.bytes))
    (λ on. ap twice (subst (λ (y : List ℕ). seen y ≡ None) (sym is) (fresh on).0.0))

pub fresh_rest : (rules : Rules) (seen : Places) (x : KeyAt) (k v : Item) (ps : Pairs) → x.bytes ≡ encoded k
    → KeysFresh rules seen (pair k v ps) → KeysFresh rules (with_key rules x seen) ps
fresh_rest rules seen x k v ps is fresh = λ on.
    let h = fresh on in
    let other = subst (λ (y : List ℕ). IsNoKey y ps) (sym is) h.1.0 in
    subst (λ (s : Places). Fresh s ps) (sym (with_is rules x seen on)) (unseen_in x seen ps other h.0.1, h.1.1)

pub no_fresh : (rules : Rules) (seen : Places) → KeysFresh rules seen no_pairs
no_fresh rules seen = λ on. (tt, tt)

-- before the first key
pub all_fresh : (ps : Pairs) → KeysDiffer ps → Fresh no_places ps
all_fresh ps h = (unseen ps, h)
  where
    unseen : (ps : Pairs) → AllUnseen no_places ps
    unseen no_pairs = tt
    unseen (pair k v ps) = (refl, unseen ps)
