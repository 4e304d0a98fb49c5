-- For `keys_twice`: if bytes have a re-encoding by core deterministic encoding (`IsReencoded CORE`), no map in them has
-- two equal keys (`KeysOnce`).
use Rattle.std.proofs.Common.{◌≢◌, ℕ, ◌+◌, true, List, [], inl, inr, refl, sym, ap, subst}
use Rattle.cbor_grammar.specs.declared.width.IntegerWidth.{IntegerWidth}
use Rattle.cbor_grammar.specs.Item as spec
use Rattle.cbor_grammar.specs.Item.{Item, atom, array, tagged, Items, no_items, item, Pairs, no_pairs, pair}
use Rattle.cbor_grammar.specs.Item.{item_count, pair_count}
use Rattle.cbor_grammar.specs.Reading.{joined_pairs}
use Rattle.cbor_grammar.specs.Written.{encoded}
use Rattle.cbor_rules.specs.declared.rules.KeyOrder.TheVariants.{Bytes}
use Rattle.cbor_rules.specs.declared.rules.TheConstants.Rules.{CORE}
use Rattle.cbor_rules.specs.Keeps.{IsNoKey, KeysDiffer}
use Rattle.cbor_rules.specs.Same.{IsSame, SameItems, SamePairs, IsDeterministic}
use Rattle.cbor_rules.proofs.Deterministic.{Good, GoodItems, GoodPairs, good_items, good_pairs, members_of, taken}
use Rattle.cbor_rules.proofs.Deterministic.{item_once}
use Rattle.cbor_rules.proofs.SortedPairs.{keys_differ}
use Rattle.cbor_reencode.specs.Reduction.{reduced_item, reduced_items, reduced_pairs}
use Rattle.cbor_reencode.specs.Reencoded.{IsReencoded, IsNoneOf, KeysApart, MapsApart, MapsApartItems, MapsApartPairs}
use Rattle.cbor_reencode.specs.Reencoded.{KeysOnce}
use Rattle.cbor_reencode.proofs.Euclid.{same_both}
use Rattle.cbor_reencode.proofs.Kept.{items_kept}
use Rattle.cbor_reencode.proofs.Spelled.{items_once}
use Rattle.cbor_reencode.proofs.Unreduced.{core, loose, core_loose, no_content, tag_stays, unreduced_items}

core_fixes : IsDeterministic core
core_fixes = record { heads = refl; lengths = refl; order = λ e. absurd cc }

-- ---- keys that differ

no_key_out : (x : List ℕ) (before after : Pairs) (l w : Item) → IsNoKey x (joined_pairs before (pair l w after))
    → (x ≢ encoded l) × IsNoKey x (joined_pairs before after)
no_key_out x no_pairs after l w h = (h.0, h.1)
no_key_out x (pair m v before) after l w h =
    let more = no_key_out x before after l w h.1 in (more.0, (h.0, more.1))

differ_out : (before after : Pairs) (l w : Item) → KeysDiffer (joined_pairs before (pair l w after))
    → IsNoKey (encoded l) (joined_pairs before after) × KeysDiffer (joined_pairs before after)
differ_out no_pairs after l w h = (h.0, h.1)
differ_out (pair m v before) after l w h =
    let first = no_key_out (encoded m) before after l w h.0 in
    let more = differ_out before after l w h.1 in
    ((λ same. first.0 (sym same), more.0), (first.1, more.1))

-- ---- two keys of a map

-- A key that is encoded to `l` is one with none of those that are encoded to other keys.
none_one : (k l : Item) (ps qs : Pairs) (level : ℕ) → IsSame true (reduced_item CORE k) l → Good core level l
    → SamePairs true (reduced_pairs CORE ps) qs → GoodPairs core level qs → IsNoKey (encoded l) qs → IsNoneOf k ps
none_one k l no_pairs qs level is it same good none = tt
none_one k l (pair m w ps) qs level is it same good none =
    let t = taken core level same.0 same.1 same.2 same.3 (subst (GoodPairs core level) same.4 good) in
    let out = no_key_out (encoded l) same.0 same.1 same.2 same.3 (subst (IsNoKey (encoded l)) same.4 none) in (
      λ one. out.0 (ap encoded (item_once core core_fixes l same.2 level it t.key
          (same_both true (reduced_item CORE m) l same.2
          (same_both true (reduced_item CORE k) (reduced_item CORE m) l one is) same.5))),
      none_one k l ps (joined_pairs same.0 same.1) level is it same.7 t.others out.1,
    )

keys_apart : (ps qs : Pairs) (level : ℕ) → SamePairs true (reduced_pairs CORE ps) qs → GoodPairs core level qs
    → KeysDiffer qs → KeysApart ps
keys_apart no_pairs qs level same good differ = tt
keys_apart (pair k v ps) qs level same good differ =
    let t = taken core level same.0 same.1 same.2 same.3 (subst (GoodPairs core level) same.4 good) in
    let out = differ_out same.0 same.1 same.2 same.3 (subst KeysDiffer same.4 differ) in (
      none_one k same.2 ps (joined_pairs same.0 same.1) level same.5 t.key same.7 t.others out.0,
      keys_apart ps (joined_pairs same.0 same.1) level same.7 t.others out.1,
    )

-- ---- items

-- a tag before an item with a map is one once it is reduced
stays : (t : ℕ) (w : IntegerWidth) (i j : Item) → IsSame true (reduced_item CORE (tagged t w i)) j
    → (IsSame true (tagged t w (reduced_item CORE i)) j → MapsApart i) → MapsApart i
stays t w i j same then =
    elim (no_content i) [
      | inl none ↦ then (subst (λ (k : Item). IsSame true k j) (tag_stays t w (reduced_item CORE i) none) same)
      | inr apart ↦ apart
    ]

mutual
  apart : (i j : Item) (level : ℕ) → Good core level j → IsSame true (reduced_item CORE i) j → MapsApart i
  apart (atom a) j level good same = tt
  apart (array is w) (array js v) level good same =
      let x = members_of 4 (item_count js) v good.0.0 _ good.0.1.1 in
      apart_items is js (level + 1) (good_items core (level + 1) x.0 x.1 js x.2 good.1.2) same
  apart (spec.map ps w) (spec.map qs v) level good same =
      let x = members_of 5 (pair_count qs) v good.0.0 _ good.0.1.1 in
      let pairs = good_pairs core (level + 1) x.0 x.1 qs x.2 good.1.2 in (
        keys_apart ps qs (level + 1) same pairs (keys_differ Bytes (λ e. absurd cc) qs good.1.3),
        apart_pairs ps qs (level + 1) pairs same,
      )
  apart (tagged t w i) (tagged u v j) level good same =
      stays t w i (tagged u v j) same (λ s. apart i j (level + 1) ((good.0.1.1.1, good.0.1.1.3), good.1.3) s.1)
  apart (tagged t w i) (atom b) level good same = stays t w i (atom b) same (λ s. absurd s)
  apart (tagged t w i) (array js v) level good same = stays t w i (array js v) same (λ s. absurd s)
  apart (tagged t w i) (spec.map qs v) level good same = stays t w i (spec.map qs v) same (λ s. absurd s)
  apart (array is w) (atom b) level good same = absurd same
  apart (array is w) (spec.map qs v) level good same = absurd same
  apart (array is w) (tagged u v j) level good same = absurd same
  apart (spec.map ps w) (atom b) level good same = absurd same
  apart (spec.map ps w) (array js v) level good same = absurd same
  apart (spec.map ps w) (tagged u v j) level good same = absurd same

  apart_items : (is js : Items) (level : ℕ) → GoodItems core level js → SameItems true (reduced_items CORE is) js
      → MapsApartItems is
  apart_items no_items js level good same = tt
  apart_items (item i is) (item j js) level good same =
      (apart i j level good.0 same.0, apart_items is js level good.1 same.1)
  apart_items (item i is) no_items level good same = absurd same

  apart_pairs : (ps qs : Pairs) (level : ℕ) → GoodPairs core level qs → SamePairs true (reduced_pairs CORE ps) qs
      → MapsApartPairs ps
  apart_pairs no_pairs qs level good same = tt
  apart_pairs (pair k v ps) qs level good same =
      let t = taken core level same.0 same.1 same.2 same.3 (subst (GoodPairs core level) same.4 good) in (
        apart k same.2 level t.key same.5,
        apart v same.3 level t.value same.6,
        apart_pairs ps (joined_pairs same.0 same.1) level t.others same.7,
      )

-- ---- bytes

-- where items have a core deterministic encoding, no two keys of a map are one
pub core_once : (b again : List ℕ) → IsReencoded CORE b again → KeysOnce b
core_once b again r = λ items spells.
    let one = items_once r.items items b b refl r.spells spells in
    let kept = items_kept core loose core_loose 1 r.written r.kept.keeps in
    subst MapsApartItems one (apart_items r.items r.written 1
    (good_items core 1 again [] r.written r.kept.spells r.kept.keeps)
    (unreduced_items (reduced_items CORE r.items) r.written 1 kept r.same))
