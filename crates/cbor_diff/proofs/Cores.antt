-- Bytes that are the same (`AreSame`) have the same core deterministic encoding if both have one. Bytes that have one
-- are valid: they keep the rules `VALID`, and no map has two equal keys (`KeepsWithKeys`). Bytes that have none are the
-- same only as themselves.
use Rattle.std.proofs.Common.{◌≡◌, ◌≢◌, ℕ, ◌+◌, ◌-◌, ◌^◌, ◌<◌, ◌≤◌, Bool, true, false, cond, ltb, eqb, List, [], ◌∷◌}
use Rattle.std.proofs.Common.{◌++◌, length, Option, Some, None, ◌⊎◌, inl, inr, refl, sym, ap, subst, ◌∙◌, arith}
use Rattle.std.specs.List.{AllByRecursion}
use Rattle.cbor_grammar.specs.declared.width.IntegerWidth.{IntegerWidth}
use Rattle.cbor_grammar.specs.declared.width.IntegerWidth.TheVariants as width
use Rattle.cbor_grammar.specs.declared.strings.StringKind.{StringKind}
use Rattle.cbor_grammar.specs.declared.strings.StringKind.TheVariants.{Bytes, Text}
use Rattle.cbor_grammar.specs.Item as spec
use Rattle.cbor_grammar.specs.Item.{Chunk, Atom, integer, negative, string, chunked_string, float, simple, Item, atom}
use Rattle.cbor_grammar.specs.Item.{array, tagged, Items, no_items, item, Pairs, no_pairs, pair, item_count, pair_count}
use Rattle.cbor_grammar.specs.Bytes.{strict, Spells, SpellsItems, SpellsPairs}
use Rattle.cbor_grammar.specs.Reading.{joined_pairs, read_item}
use Rattle.cbor_grammar.specs.Written.{encoded}
use Rattle.cbor_grammar.proofs.bytes.FoundAgain.{item_again, spelled_level}
use Rattle.cbor_grammar.proofs.bytes.Heads.{ok_is}
use Rattle.cbor_grammar.proofs.bytes.Strict.{strict_any, strict_only}
use Rattle.cbor_rules.specs.declared.rules.KeyOrder.TheVariants.{Any}
use Rattle.cbor_rules.specs.declared.rules.TheConstants.Rules.{CORE, VALID}
use Rattle.cbor_rules.specs.Keeps.{Keeps, KeepsAtom, KeepsItems, KeepsPairs, KeepsNumber, KeepsCount, KeepsChunk}
use Rattle.cbor_rules.specs.Keeps.{KeysAfter, KeysInOrder, IsNoKey, KeysDiffer}
use Rattle.cbor_rules.specs.Same.{whole, said, IsSame, SameItems, SamePairs, IsDeterministic}
use Rattle.cbor_rules.proofs.Deterministic.{Good, GoodItems, GoodPairs, good_items, good_pairs, members_of, taken}
use Rattle.cbor_rules.proofs.Deterministic.{one_encoding}
use Rattle.cbor_reencode.specs.OneKey.{KeepsWithKeys}
use Rattle.cbor_reencode.specs.Reduction.{reduced_atom, big_endian, without_zeros, content_of, small_number, big_or}
use Rattle.cbor_reencode.specs.Reduction.{is_big, reduced_item, reduced_items, reduced_pairs}
use Rattle.cbor_reencode.specs.Reencoded.{IsReencoded, AreOne, IsNoneOf, KeysApart, MapsApart, MapsApartItems}
use Rattle.cbor_reencode.specs.Reencoded.{MapsApartPairs}
use Rattle.cbor_reencode.proofs.Euclid.{same_both}
use Rattle.cbor_reencode.proofs.Kept.{items_kept, same_item}
use Rattle.cbor_reencode.proofs.Once.{core_once}
use Rattle.cbor_reencode.proofs.Spelled.{items_once}
use Rattle.cbor_reencode.proofs.Unreduced.{core, loose, core_loose, tag_stays, unreduced_items}
use Rattle.cbor_diff.specs.Same.{AreSame}

-- ---- at most one

core_fixes : IsDeterministic core
core_fixes = record { heads = refl; lengths = refl; order = λ e. absurd cc }

-- what was written is the same as the reduced items
written_same : (b x : List ℕ) (r : IsReencoded CORE b x) → SameItems true (reduced_items CORE r.items) r.written
written_same b x r =
    unreduced_items (reduced_items CORE r.items) r.written 1
    (items_kept core loose core_loose 1 r.written r.kept.keeps) r.same

one_core : (b x y : List ℕ) → IsReencoded CORE b x → IsReencoded CORE b y → x ≡ y
one_core b x y r s =
    let one = items_once s.items r.items b b refl s.spells r.spells in
    let other = subst (λ (is : Items). SameItems true (reduced_items CORE is) s.written) one (written_same b y s) in
    one_encoding core x y r.written s.written core_fixes r.kept s.kept
    (same_both true (array (reduced_items CORE r.items) None) (array r.written None) (array s.written None)
    (written_same b x r) other)

-- the same items have the same core deterministic encoding
pub same_cores : (b c x y : List ℕ) → IsReencoded CORE b x → IsReencoded CORE c y → AreSame b c → x ≡ y
same_cores b c x y r s (inl same) = one_core c x y (subst (λ (d : List ℕ). IsReencoded CORE d x) same r) s
same_cores b c x y r s (inr one) = one_core b x one.0 r one.1 ∙ one_core c one.0 y one.2 s

-- ---- valid items

number_kept : (n : ℕ) (w : IntegerWidth) → KeepsNumber VALID n w
number_kept n w = λ on. absurd cc

count_kept : (n : ℕ) (w : Option IntegerWidth) → KeepsCount VALID n w
count_kept n (Some w) = number_kept n w
count_kept n None = λ on. absurd cc

chunk_kept : (kind : StringKind) (c : Chunk) → KeepsChunk VALID kind c
chunk_kept Bytes c = (number_kept (length c.bytes) c.width, tt)
chunk_kept Text c = (number_kept (length c.bytes) c.width, λ on. absurd cc)

chunks_kept : (kind : StringKind) (cs : List Chunk) → AllByRecursion (KeepsChunk VALID kind) cs
chunks_kept kind [] = tt
chunks_kept kind (c ∷ cs) = (chunk_kept kind c, chunks_kept kind cs)

after_kept : (last : List ℕ) (ps : Pairs) → KeysAfter Any last ps
after_kept last no_pairs = tt
after_kept last (pair k v ps) = (refl, after_kept (encoded k) ps)

order_kept : (ps : Pairs) → KeysInOrder Any ps
order_kept no_pairs = tt
order_kept (pair k v ps) = after_kept (encoded k) ps

-- bytes are one item
spelled_once : (level : ℕ) (x y : List ℕ) (k l : Item) → Spells strict level x k → Spells strict level y l
    → encoded k ≡ encoded l → k ≡ l
spelled_once level x y k l s t e =
    let le = spelled_level level x k (strict_any level x k s) in
    let sum : level + (129 - level) ≡ 129 = omega (arith, le) in
    let same = strict_only level x k s ∙ e ∙ sym (strict_only level y l t) in
    let both = sym (item_again level (129 - level) x k [] sum (strict_any level x k s))
    ∙ ap (λ (b : List ℕ). read_item (129 - level) (b ++ [])) same
    ∙ item_again level (129 - level) y l [] sum (strict_any level y l t) in
    ap (λ (p : Item × List ℕ). p.0) (ok_is (k, []) (l, []) both)

-- A key that is one with none of others has the bytes of none.
no_key : (level : ℕ) (x : List ℕ) (k : Item) (b end : List ℕ) (ps : Pairs) → Spells strict level x k
    → SpellsPairs strict level b ps end → IsNoneOf k ps → IsNoKey (encoded k) ps
no_key level x k b end no_pairs s h none = tt
no_key level x k b end (pair l w ps) s h none = (
  λ e. none.0 (subst (λ (m : Item). AreOne k m) (spelled_once level x h.0 k l s h.4 e)
      (same_item true (reduced_item CORE k))),
  no_key level x k h.2 end ps s h.6 none.1,
)

keys_differ : (level : ℕ) (b end : List ℕ) (ps : Pairs) → SpellsPairs strict level b ps end → KeysApart ps
    → KeysDiffer ps
keys_differ level b end no_pairs h apart = tt
keys_differ level b end (pair k v ps) h apart =
    (no_key level h.0 k h.2 end ps h.4 h.6 apart.0, keys_differ level h.2 end ps h.6 apart.1)

-- ---- what stays below a tag

small_none : (n : ℕ) (s : Bool) → content_of (atom (cond s (negative n width.Unknown) (integer n width.Unknown))) ≡ None
small_none n true = refl
small_none n false = refl

big_none : (t : ℕ) (c : List ℕ) (s : Bool) → content_of (cond s (atom (small_number t (big_endian 0 c)))
    (tagged t width.Unknown (atom (string Bytes (whole (without_zeros c)))))) ≡ None
big_none t c true = small_none (big_endian 0 c) (eqb t 3)
big_none t c false = refl

tag_none : (t : ℕ) (w : IntegerWidth) (i : Item) (s : Bool) (o : Option (List ℕ))
    → content_of (cond s (big_or t o (tagged t w i)) (tagged t w i)) ≡ None
tag_none t w i true None = refl
tag_none t w i true (Some c) = big_none t c (ltb (big_endian 0 c) (2 ^ 64))
tag_none t w i false o = refl

-- An item is no content of a big number, or is a byte string.
no_content : (i : Item) → (content_of (reduced_item CORE i) ≡ None) ⊎ ((level : ℕ) → Keeps VALID level i)
no_content (atom (integer n w)) = inl refl
no_content (atom (negative n w)) = inl refl
no_content (atom (string Bytes c)) = inr (λ level. chunk_kept Bytes c)
no_content (atom (string Text c)) = inl refl
no_content (atom (chunked_string Bytes cs)) = inr (λ level. ((λ on. absurd cc), chunks_kept Bytes cs))
no_content (atom (chunked_string Text cs)) = inl refl
no_content (atom (float bits w)) = inl refl
no_content (atom (simple n)) = inl refl
no_content (array is w) = inl refl
no_content (spec.map ps w) = inl refl
no_content (tagged t w i) = inl (tag_none t w (reduced_item CORE i) (is_big CORE t) (content_of (reduced_item CORE i)))

tag_valid : (t : ℕ) (w : IntegerWidth) (i j : Item) (level : ℕ)
    → (IsSame true (tagged t w (reduced_item CORE i)) j → Keeps VALID (level + 1) i)
    → IsSame true (reduced_item CORE (tagged t w i)) j → Keeps VALID level (tagged t w i)
tag_valid t w i j level below same = (
  refl,
  number_kept t w,
  (λ on. absurd cc),
  elim (no_content i) [
    | inl none ↦ below (subst (λ (k : Item). IsSame true k j) (tag_stays t w (reduced_item CORE i) none) same)
    | inr kept ↦ kept (level + 1)
  ],
)

-- ---- items

simple_valid : (n : ℕ) (a : Atom) → KeepsAtom core a → simple n ≡ said true a → (n < 24) ⊎ (32 ≤ n)
simple_valid n (simple m) keeps e =
    let same : n ≡ m = cc in subst (λ (k : ℕ). (k < 24) ⊎ (32 ≤ k)) (sym same) keeps.0
simple_valid n (integer m w) keeps e = absurd cc
simple_valid n (negative m w) keeps e = absurd cc
simple_valid n (string kind c) keeps e = absurd cc
simple_valid n (chunked_string kind cs) keeps e = absurd cc
simple_valid n (float bits w) keeps e = absurd cc

atom_valid : (a b : Atom) → KeepsAtom core b → said true a ≡ said true b → KeepsAtom VALID a
atom_valid (integer n w) b keeps e = number_kept n w
atom_valid (negative n w) b keeps e = number_kept n w
atom_valid (string kind c) b keeps e = chunk_kept kind c
atom_valid (chunked_string kind cs) b keeps e = ((λ on. absurd cc), chunks_kept kind cs)
atom_valid (float bits w) b keeps e = ((λ on. absurd cc), (λ on. absurd cc))
atom_valid (simple n) b keeps e = (simple_valid n b keeps e, inl refl)

same_atom : (a : Atom) → reduced_atom CORE a ≡ a
same_atom (integer n w) = refl
same_atom (negative n w) = refl
same_atom (string kind c) = refl
same_atom (chunked_string kind cs) = refl
same_atom (float bits w) = refl
same_atom (simple n) = refl

-- An item is valid if its keys are apart and it is the same as one that keeps the rules.
mutual
  item_valid : (i j : Item) (level : ℕ) (b : List ℕ) → Spells strict level b i → MapsApart i → Good core level j
      → IsSame true (reduced_item CORE i) j → Keeps VALID level i
  item_valid (atom a) (atom b) level x h apart good same =
      atom_valid a b good.1 (subst (λ (c : Atom). said true c ≡ said true b) (same_atom a) same)
  item_valid (array is w) (array js v) level x h apart good same =
      let m = members_of 4 (item_count is) w x _ h.1 in
      let n = members_of 4 (item_count js) v good.0.0 _ good.0.1.1 in (
        h.0,
        count_kept (item_count is) w,
        items_valid is js (level + 1) m.0 m.1 m.2 apart (good_items core (level + 1) n.0 n.1 js n.2 good.1.2) same,
      )
  item_valid (spec.map ps w) (spec.map qs v) level x h apart good same =
      let m = members_of 5 (pair_count ps) w x _ h.1 in
      let n = members_of 5 (pair_count qs) v good.0.0 _ good.0.1.1 in (
        h.0,
        count_kept (pair_count ps) w,
        pairs_valid ps qs (level + 1) m.0 m.1 m.2 apart.1 (good_pairs core (level + 1) n.0 n.1 qs n.2 good.1.2) same,
        order_kept ps,
        (λ on. keys_differ (level + 1) m.0 m.1 ps m.2 apart.0),
      )
  item_valid (tagged t w i) (tagged u v j) level x (le, (fits, rest, is, below)) apart good same =
      tag_valid t w i (tagged u v j) level
      (λ s. item_valid i j (level + 1) rest below apart ((good.0.1.1.1, good.0.1.1.3), good.1.3) s.1) same
  item_valid (tagged t w i) (atom b) level x h apart good same =
      tag_valid t w i (atom b) level (λ s. absurd s) same
  item_valid (tagged t w i) (array js v) level x h apart good same =
      tag_valid t w i (array js v) level (λ s. absurd s) same
  item_valid (tagged t w i) (spec.map qs v) level x h apart good same =
      tag_valid t w i (spec.map qs v) level (λ s. absurd s) same
  item_valid (atom a) (array js v) level x h apart good same = absurd same
  item_valid (atom a) (spec.map qs v) level x h apart good same = absurd same
  item_valid (atom a) (tagged u v j) level x h apart good same = absurd same
  item_valid (array is w) (atom b) level x h apart good same = absurd same
  item_valid (array is w) (spec.map qs v) level x h apart good same = absurd same
  item_valid (array is w) (tagged u v j) level x h apart good same = absurd same
  item_valid (spec.map ps w) (atom b) level x h apart good same = absurd same
  item_valid (spec.map ps w) (array js v) level x h apart good same = absurd same
  item_valid (spec.map ps w) (tagged u v j) level x h apart good same = absurd same

  items_valid : (is js : Items) (level : ℕ) (b end : List ℕ) → SpellsItems strict level b is end → MapsApartItems is
      → GoodItems core level js → SameItems true (reduced_items CORE is) js → KeepsItems VALID level is
  items_valid no_items js level b end h apart good same = tt
  items_valid (item i is) (item j js) level b end h apart good same = (
    item_valid i j level h.0 h.3 apart.0 good.0 same.0,
    items_valid is js level h.1 end h.4 apart.1 good.1 same.1,
  )
  items_valid (item i is) no_items level b end h apart good same = absurd same

  pairs_valid : (ps qs : Pairs) (level : ℕ) (b end : List ℕ) → SpellsPairs strict level b ps end → MapsApartPairs ps
      → GoodPairs core level qs → SamePairs true (reduced_pairs CORE ps) qs → KeepsPairs VALID level ps
  pairs_valid no_pairs qs level b end h apart good same = tt
  pairs_valid (pair k v ps) qs level b end h apart good same =
      let t = taken core level same.0 same.1 same.2 same.3 (subst (GoodPairs core level) same.4 good) in (
        item_valid k same.2 level h.0 h.4 apart.0 t.key same.5,
        item_valid v same.3 level h.1 h.5 apart.1 t.value same.6,
        pairs_valid ps (joined_pairs same.0 same.1) level h.2 end h.6 apart.2 t.others same.7,
      )

-- items that have a core deterministic encoding are valid
pub core_valid : (b again : List ℕ) → IsReencoded CORE b again → KeepsWithKeys VALID b
core_valid b again r =
    let once = core_once b again r in
    let good = good_items core 1 again [] r.written r.kept.spells r.kept.keeps in
    let valid = items_valid r.items r.written 1 b [] r.spells (once r.items r.spells) good (written_same b again r) in
    ((r.items, r.spells, valid), λ on. once)

-- ---- where there is none

-- other bytes are not the same as those without a core deterministic encoding
pub other_first : (b c : List ℕ) → b ≢ c → ((core : List ℕ) → ¬ (IsReencoded CORE b core)) → ¬ (AreSame b c)
other_first b c other none (inl same) = other same
other_first b c other none (inr one) = none one.0 one.1

pub other_second : (b c : List ℕ) → b ≢ c → ((core : List ℕ) → ¬ (IsReencoded CORE c core)) → ¬ (AreSame b c)
other_second b c other none (inl same) = other same
other_second b c other none (inr one) = none one.0 one.2
