-- For `Reader::datum_of`: the values of members and the entries of pairs, taken one at a time, are those of the whole
-- item (`values_of_items`, `entries`). What is inserted into a map of stored entries is inserted into the entries they
-- stand for (`with_entry`), and a flag says whether a key was known before (`a_key_stands_twice`).
use Rattle.std.proofs.Common.{◌≡◌, ℕ, suc, ◌+◌, ◌<◌, Bool, true, false, ◌||◌, length, get_or, cond, Vec, Global}
use Rattle.std.proofs.Common.{List, [], ◌∷◌}
use Rattle.std.proofs.Common.{◌++◌, map, take, drop, Option, Some, is_some, Ordering, Less, Equal, Greater, refl}
use Rattle.std.proofs.Common.{ap, sym, ◌∙◌, arith}
use Rattle.std.proofs.lemmas.List.{at_drop_more, map-append}
use Rattle.std.proofs.Math.Seq.{take-suc}
use Rattle.std.specs.Map.{lookup}
use Rattle.std.specs.Ordering.{match_ordering}
use Rattle.std.specs.BTreeMap.{insert_entry, is_at}
use Rattle.cbor_diag.specs.declared.syntax.DataItem.{DataItem}
use Rattle.cbor_diag.specs.View as item
use Rattle.cbor_fits.specs.Value as spec
use Rattle.cbor_fits.specs.Value.{Value, Values, values_of, list_of}
use Rattle.cbor_fits.specs.Decoded.{values_of_items, entries, Entry, key_order, with_entry, has_key}
use Rattle.cbor_fits.specs.Decoded.{a_key_stands_twice}
use Rattle.cbor_fits.specs.Reads.{datum_value, entry_of, entry_view}
use Rattle.cbor_fits.specs.Rests.{pair_view}
use Rattle.cbor_fits.specs.declared.value.Datum.{Datum}

pub values_view : (is : List DataItem) → values_of_items (item.items_view is) ≡ values_of (map datum_value is)
values_view [] = refl
values_view (i ∷ is) = ap (spec.value (datum_value i)) (values_view is)

pub entries_view : (ps : List (DataItem × DataItem)) → entries (item.pairs_view ps) ≡ map entry_of ps
entries_view [] = refl
entries_view (p ∷ ps) = ap (λ es. entry_of p ∷ es) (entries_view ps)

pub values_of-list_of : (vs : Values) → values_of (list_of vs) ≡ vs
values_of-list_of spec.no_values = refl
values_of-list_of (spec.value v vs) = ap (spec.value v) (values_of-list_of vs)

-- what is left of a list, with the element that is here
pub at_item : {X Y : Type 0} (F : List X → Y) (xs : List X) (i : ℕ) (x : X) → i < length xs → x ≡ get_or xs i x
    → F (drop i xs) ≡ F (x ∷ drop (i + 1) xs)
at_item F xs i x here is = at_drop_more F xs i x here ∙ ap (λ y. F (y ∷ drop (i + 1) xs)) (sym is)

-- the list so far, with the element that is here
pub one_more : {X Y : Type 0} (f : X → Y) (xs : List X) (i : ℕ) (x : X) → i < length xs → x ≡ get_or xs i x
    → map f (take i xs) ++ f x ∷ [] ≡ map f (take (i + 1) xs)
one_more f xs i x here is =
    let next : suc i ≡ i + 1 = omega arith in
    (λ j. map f (take i xs) ++ f (is j) ∷ []) ∙ (sym (map-append f (take i xs) (get_or xs i x ∷ []))
    ∙ (ap (map f) (sym (take-suc xs i x here)) ∙ ap (λ n. map f (take n xs)) next))

-- ---- entries

abbrev pub Stored : Type 0
Stored = Vec ℕ Global × (Datum × Datum)

-- which key comes first
abbrev pub stored_order : Vec ℕ Global → Vec ℕ Global → Ordering
stored_order k l = key_order k.items l.items

-- what stored entries stand for
abbrev pub seen : List Stored → List Entry
seen es = map entry_view es

seen-match : (o : Ordering) (a b c : List Stored)
    → seen (match_ordering o a b c) ≡ match_ordering o (seen a) (seen b) (seen c)
seen-match Less a b c = refl
seen-match Equal a b c = refl
seen-match Greater a b c = refl

-- an entry more stands for an entry more
pub seen-insert : (es : List Stored) (k : Vec ℕ Global) (p : Datum × Datum)
    → seen (insert_entry stored_order es k p) ≡ with_entry (seen es) (k.items, pair_view p)
seen-insert [] k p = refl
seen-insert (e ∷ es) k p = seen-match (stored_order k e.0) _ _ _ ∙ rw (seen-insert es k p)

found : {X Y : Type 0} (b : Bool) (x : X) (y : Y) (l : Option X) (m : Option Y) → is_some l ≡ is_some m
    → is_some (cond b (Some x) l) ≡ is_some (cond b (Some y) m)
found true x y l m h = refl
found false x y l m h = h

-- a key is in stored entries if it is in what they stand for
pub seen-lookup : (es : List Stored) (k : Vec ℕ Global)
    → is_some (lookup (is_at (stored_order k)) es) ≡ has_key (seen es) k.items
seen-lookup [] k = refl
seen-lookup (e ∷ es) k = found (is_at (stored_order k) e.0) e.1 (pair_view e.1) _ _ (seen-lookup es k)

-- the pairs of stored entries stand for those of the entries
pub seen-pairs : (es : List Stored) → map pair_view (map (λ e. e.1) es) ≡ map (λ e. e.1) (seen es)
seen-pairs [] = refl
seen-pairs (e ∷ es) = ap (λ ps. pair_view e.1 ∷ ps) (seen-pairs es)

-- ---- flags

pub or_assoc : (a b c : Bool) → ((a || b) || c) ≡ (a || (b || c))
or_assoc true b c = refl
or_assoc false b c = refl

pub or_false : (a : Bool) → a ≡ (a || false)
or_false true = refl
or_false false = refl

pub or_assoc-3 : (a b c d : Bool) → (((a || b) || c) || d) ≡ (a || (b || (c || d)))
or_assoc-3 true b c d = refl
or_assoc-3 false b c d = or_assoc b c d

-- one key more is known, or not
pub stands_twice_so_far : (sorted : List Entry) (e : Entry) (es : List Entry) (old here : Bool)
    → here ≡ has_key sorted e.0
    → ((old || here) || a_key_stands_twice (with_entry sorted e) es) ≡ (old || a_key_stands_twice sorted (e ∷ es))
stands_twice_so_far sorted e es old here is =
    or_assoc old here (a_key_stands_twice (with_entry sorted e) es)
    ∙ ap (λ h. old || (h || a_key_stands_twice (with_entry sorted e) es)) is

-- what a flag says that was down
pub raised : (old new here : Bool) → new ≡ (old || here) → old ≡ false → new ≡ here
raised old new here is none = is ∙ ap (λ f. f || here) none
