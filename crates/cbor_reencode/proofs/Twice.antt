-- For `have_key_twice`: if the bytes that are written by `CORE` keep the rules `unordered false` but not
-- `unordered true`, which ask for distinct keys as well, two keys of a map in the input are equal (not `KeysOnce`).
use Rattle.std.proofs.Common.{◌≡◌, ◌≢◌, ℕ, ◌+◌, ◌-◌, ◌^◌, ◌⊎◌, Bool, true, false, cond, ltb, List, [], ◌++◌, Option}
use Rattle.std.proofs.Common.{Some, None, inl, inr, refl, sym, ap, subst, ◌∙◌, arith}
use Rattle.cbor_grammar.specs.declared.width.IntegerWidth.{IntegerWidth}
use Rattle.cbor_grammar.specs.declared.width.IntegerWidth.TheVariants as width
use Rattle.cbor_grammar.specs.declared.strings.StringKind.TheVariants.{Bytes, Text}
use Rattle.cbor_grammar.specs.Item as spec
use Rattle.cbor_grammar.specs.Item.{Atom, integer, negative, string, chunked_string, float, simple, Item, atom}
use Rattle.cbor_grammar.specs.Item.{array, tagged, Items, no_items, item, Pairs, no_pairs, pair, item_count, pair_count}
use Rattle.cbor_grammar.specs.Bytes.{SpellsItems, strict}
use Rattle.cbor_grammar.specs.Reading.{joined_pairs, read_item}
use Rattle.cbor_grammar.specs.Written.{encoded}
use Rattle.cbor_grammar.proofs.bytes.FoundAgain.{item_again, spelled_level}
use Rattle.cbor_grammar.proofs.bytes.Heads.{ok_is}
use Rattle.cbor_grammar.proofs.bytes.Strict.{strict_any, strict_only}
use Rattle.cbor_rules.specs.declared.rules.Rules.{Rules}
use Rattle.cbor_rules.specs.declared.rules.TheConstants.Rules.{CORE}
use Rattle.cbor_rules.specs.Keeps.{IsNoKey, KeysDiffer, KeepsAtom, KeepsCount, Keeps, KeepsItems, KeepsPairs}
use Rattle.cbor_rules.specs.Keeps.{KeepsRules}
use Rattle.cbor_rules.specs.Same.{whole, IsSame, SameItems, SamePairs}
use Rattle.cbor_rules.proofs.Deterministic.{Good, GoodItems, GoodPairs, good_items, good_pairs, members_of, taken}
use Rattle.cbor_reencode.specs.Reduction.{big_endian, without_zeros, content_of, small_number, big_or, is_big}
use Rattle.cbor_reencode.specs.Reduction.{reduced_tag, reduced_item, reduced_items, reduced_pairs}
use Rattle.cbor_reencode.specs.Reencoded.{IsNoneOf, KeysApart, MapsApart, MapsApartItems, MapsApartPairs, KeysOnce}
use Rattle.cbor_reencode.specs.mirror.Rewritten.{Sequence}
use Rattle.cbor_reencode.specs.mirror.Twice.{unordered}
use Rattle.cbor_reencode.proofs.Euclid.{same_to}
use Rattle.cbor_reencode.proofs.Spelled.{items_once}
use Rattle.cbor_reencode.proofs.Unreduced.{loose, unreduced_items}

-- the same rules, and keys that differ
abbrev distinct : Rules
distinct = unordered true

-- ---- keys that differ

no_key_in : (x : List ℕ) (before after : Pairs) (l w : Item) → x ≢ encoded l → IsNoKey x (joined_pairs before after)
    → IsNoKey x (joined_pairs before (pair l w after))
no_key_in x no_pairs after l w other h = (other, h)
no_key_in x (pair m v before) after l w other h = (h.0, no_key_in x before after l w other h.1)

differ_in : (before after : Pairs) (l w : Item) → IsNoKey (encoded l) (joined_pairs before after)
    → KeysDiffer (joined_pairs before after) → KeysDiffer (joined_pairs before (pair l w after))
differ_in no_pairs after l w none differ = (none, differ)
differ_in (pair m v before) after l w none differ = (
  no_key_in (encoded m) before after l w (λ same. none.0 (sym same)) differ.0,
  differ_in before after l w none.1 differ.1,
)

-- bytes are one item
encoded_once : (level : ℕ) (l m : Item) → Good loose level l → Good loose level m → encoded l ≡ encoded m → l ≡ m
encoded_once level l m good other e =
    let x = good.0.0 in
    let y = other.0.0 in
    let le = spelled_level level x l (strict_any level x l good.0.1) in
    let sum : level + (129 - level) ≡ 129 = omega (arith, le) in
    let same = strict_only level x l good.0.1 ∙ e ∙ sym (strict_only level y m other.0.1) in
    let both = sym (item_again level (129 - level) x l [] sum (strict_any level x l good.0.1))
    ∙ ap (λ (b : List ℕ). read_item (129 - level) (b ++ [])) same
    ∙ item_again level (129 - level) y m [] sum (strict_any level y m other.0.1) in
    ap (λ (p : Item × List ℕ). p.0) (ok_is (l, []) (m, []) both)

-- A key that is one with none of others is encoded to none of the keys that they are encoded to.
no_key : (k l : Item) (ps qs : Pairs) (level : ℕ) → IsSame true (reduced_item CORE k) l → Good loose level l
    → SamePairs true (reduced_pairs CORE ps) qs → GoodPairs loose level qs → IsNoneOf k ps → IsNoKey (encoded l) qs
no_key k l no_pairs qs level is it same good none = subst (IsNoKey (encoded l)) (sym same) tt
no_key k l (pair m w ps) qs level is it same good none =
    let t = taken loose level same.0 same.1 same.2 same.3 (subst (GoodPairs loose level) same.4 good) in
    subst (IsNoKey (encoded l)) (sym same.4) (no_key_in (encoded l) same.0 same.1 same.2 same.3
    (λ e. none.0 (same_to true (reduced_item CORE k) (reduced_item CORE m) l is
    (subst (λ (i : Item). IsSame true (reduced_item CORE m) i) (sym (encoded_once level l same.2 it t.key e)) same.5)))
    (no_key k l ps (joined_pairs same.0 same.1) level is it same.7 t.others none.1))

keys_differ : (ps qs : Pairs) (level : ℕ) → SamePairs true (reduced_pairs CORE ps) qs → GoodPairs loose level qs
    → KeysApart ps → KeysDiffer qs
keys_differ no_pairs qs level same good h = subst KeysDiffer (sym same) tt
keys_differ (pair k v ps) qs level same good h =
    let t = taken loose level same.0 same.1 same.2 same.3 (subst (GoodPairs loose level) same.4 good) in
    subst KeysDiffer (sym same.4) (differ_in same.0 same.1 same.2 same.3
    (no_key k same.2 ps (joined_pairs same.0 same.1) level same.5 t.key same.7 t.others h.0)
    (keys_differ ps (joined_pairs same.0 same.1) level same.7 t.others h.1))

-- ---- what has no keys

atom_kept : (a : Atom) → KeepsAtom loose a → KeepsAtom distinct a
atom_kept (integer n w) h = h
atom_kept (negative n w) h = h
atom_kept (string Text c) h = h
atom_kept (string Bytes c) h = h
atom_kept (chunked_string Text cs) h = h
atom_kept (chunked_string Bytes cs) h = h
atom_kept (float bits w) h = h
atom_kept (simple n) h = h

count_kept : (n : ℕ) (w : Option IntegerWidth) → KeepsCount loose n w → KeepsCount distinct n w
count_kept n (Some w) h = h
count_kept n None h = h

-- ---- tags

-- what is the same as a tag once it is reduced: no array or map, and if it is a tag, its item has no parts or is the
-- same as the reduced one
abbrev TagIs : Item → Item → Type 0
TagIs r (atom a) = Unit {0}
TagIs r (array js v) = ⊥
TagIs r (spec.map qs v) = ⊥
TagIs r (tagged u v j) = IsSame true r j ⊎ ((a : Atom) × (j ≡ atom a))

as_it_is : (t : ℕ) (w : IntegerWidth) (r j : Item) → IsSame true (tagged t w r) j → TagIs r j
as_it_is t w r (atom a) h = absurd h
as_it_is t w r (array js v) h = absurd h
as_it_is t w r (spec.map qs v) h = absurd h
as_it_is t w r (tagged u v j) h = inl h.1

no_parts : (a : Atom) (j : Item) → IsSame true (atom a) j → (b : Atom) × (j ≡ atom b)
no_parts a (atom b) h = (b, refl)
no_parts a (array js v) h = absurd h
no_parts a (spec.map qs v) h = absurd h
no_parts a (tagged u v j) h = absurd h

as_number : (a : Atom) (r j : Item) → IsSame true (atom a) j → TagIs r j
as_number a r (atom b) h = tt
as_number a r (array js v) h = absurd h
as_number a r (spec.map qs v) h = absurd h
as_number a r (tagged u v j) h = absurd h

as_content : (t : ℕ) (a : Atom) (r j : Item) → IsSame true (tagged t width.Unknown (atom a)) j → TagIs r j
as_content t a r (atom b) h = absurd h
as_content t a r (array js v) h = absurd h
as_content t a r (spec.map qs v) h = absurd h
as_content t a r (tagged u v j) h = inr (no_parts a j h.1)

tag_is : (t : ℕ) (w : IntegerWidth) (r j : Item) → IsSame true (reduced_tag CORE t w r) j → TagIs r j
tag_is t w r j h = by (is_big CORE t) (content_of r) h
  where
    small : (c : List ℕ) (s : Bool) → IsSame true (cond s (atom (small_number t (big_endian 0 c)))
        (tagged t width.Unknown (atom (string Bytes (whole (without_zeros c)))))) j → TagIs r j
    small c true h = as_number (small_number t (big_endian 0 c)) r j h
    small c false h = as_content t (string Bytes (whole (without_zeros c))) r j h

    by : (s : Bool) (o : Option (List ℕ)) → IsSame true (cond s (big_or t o (tagged t w r)) (tagged t w r)) j
        → TagIs r j
    by true (Some c) h = small c (ltb (big_endian 0 c) (2 ^ 64)) h
    by true None h = as_it_is t w r j h
    by false o h = as_it_is t w r j h

-- ---- items

pairs_in : (level : ℕ) (before after : Pairs) (k v : Item) → Keeps distinct level k → Keeps distinct level v
    → KeepsPairs distinct level (joined_pairs before after)
    → KeepsPairs distinct level (joined_pairs before (pair k v after))
pairs_in level no_pairs after k v key value h = (key, value, h)
pairs_in level (pair l w before) after k v key value h =
    (h.0, h.1, pairs_in level before after k v key value h.2)

mutual
  kept : (i j : Item) (level : ℕ) → Good loose level j → IsSame true (reduced_item CORE i) j → MapsApart i
      → Keeps distinct level j
  kept i (atom a) level good same h = atom_kept a good.1
  kept (array is w) (array js v) level good same h =
      let x = members_of 4 (item_count js) v good.0.0 _ good.0.1.1 in (
        good.1.0,
        count_kept (item_count js) v good.1.1,
        kept_items is js (level + 1) (good_items loose (level + 1) x.0 x.1 js x.2 good.1.2) same h,
      )
  kept (spec.map ps w) (spec.map qs v) level good same h =
      let x = members_of 5 (pair_count qs) v good.0.0 _ good.0.1.1 in
      let pairs = good_pairs loose (level + 1) x.0 x.1 qs x.2 good.1.2 in (
        good.1.0,
        count_kept (pair_count qs) v good.1.1,
        kept_pairs ps qs (level + 1) pairs same h.1,
        good.1.3,
        λ on. keys_differ ps qs (level + 1) same pairs h.0,
      )
  kept (tagged t w i) (tagged u v j) level good same h = (
    good.1.0,
    good.1.1,
    good.1.2,
    elim (tag_is t w (reduced_item CORE i) (tagged u v j) same) [
      | inl s ↦ kept i j (level + 1) ((good.0.1.1.1, good.0.1.1.3), good.1.3) s h
      | inr a ↦ subst (λ (k : Item). Keeps distinct (level + 1) k) (sym a.1)
          (atom_kept a.0 (subst (λ (k : Item). Keeps loose (level + 1) k) a.1 good.1.3))
    ],
  )
  kept (tagged t w i) (array js v) level good same h =
      absurd (tag_is t w (reduced_item CORE i) (array js v) same)
  kept (tagged t w i) (spec.map qs v) level good same h =
      absurd (tag_is t w (reduced_item CORE i) (spec.map qs v) same)
  kept (atom a) (array js v) level good same h = absurd same
  kept (atom a) (spec.map qs v) level good same h = absurd same
  kept (atom a) (tagged u v j) level good same h = absurd same
  kept (array is w) (spec.map qs v) level good same h = absurd same
  kept (array is w) (tagged u v j) level good same h = absurd same
  kept (spec.map ps w) (array js v) level good same h = absurd same
  kept (spec.map ps w) (tagged u v j) level good same h = absurd same

  kept_items : (is js : Items) (level : ℕ) → GoodItems loose level js → SameItems true (reduced_items CORE is) js
      → MapsApartItems is → KeepsItems distinct level js
  kept_items no_items no_items level good same h = tt
  kept_items (item i is) (item j js) level good same h =
      (kept i j level good.0 same.0 h.0, kept_items is js level good.1 same.1 h.1)
  kept_items no_items (item j js) level good same h = absurd same
  kept_items (item i is) no_items level good same h = absurd same

  kept_pairs : (ps qs : Pairs) (level : ℕ) → GoodPairs loose level qs → SamePairs true (reduced_pairs CORE ps) qs
      → MapsApartPairs ps → KeepsPairs distinct level qs
  kept_pairs no_pairs qs level good same h = subst (KeepsPairs distinct level) (sym same) tt
  kept_pairs (pair k v ps) qs level good same h =
      let t = taken loose level same.0 same.1 same.2 same.3 (subst (GoodPairs loose level) same.4 good) in
      subst (KeepsPairs distinct level) (sym same.4) (pairs_in level same.0 same.1 same.2 same.3
      (kept k same.2 level t.key same.5 h.0) (kept v same.3 level t.value same.6 h.1)
      (kept_pairs ps (joined_pairs same.0 same.1) level t.others same.7 h.2))

-- ---- bytes

-- If two keys are the same in what was written without an order, two keys are one.
pub one_written : (b again : List ℕ) → Sequence CORE b [] again → KeepsRules loose again → ¬ (KeepsRules distinct again)
    → ¬ (KeysOnce b)
one_written b again s keeps twice = λ once.
    let spells : SpellsItems strict 1 again s.written [] =
    subst (λ (x : List ℕ). SpellsItems strict 1 x s.written []) (sym s.added) s.written_spells in
    let one = items_once keeps.0 s.written again again refl keeps.1 spells in
    let loosely = subst (λ (is : Items). KeepsItems loose 1 is) one keeps.2 in
    twice (
      s.written,
      spells,
      kept_items s.items s.written 1 (good_items loose 1 again [] s.written spells loosely)
          (unreduced_items (reduced_items CORE s.items) s.written 1 loosely s.same) (once s.items s.spells),
    )
