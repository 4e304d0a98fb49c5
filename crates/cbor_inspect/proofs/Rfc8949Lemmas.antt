-- An item whose bytes have no byte below 32 after 0xf8 (`NoPair`) is one by RFC 8949 (`Is8949`), so a search for 0xf8
-- is enough. Such items one after the other (`ItemsThen8949`): they stay so if one more is passed or more bytes come,
-- and the rest of a sequence of them is a sequence of them.
use Rattle.std.proofs.Common.{◌≡◌, ℕ, zero, suc, ◌+◌, ◌<◌, ◌≤◌, List, [], ◌∷◌, ◌++◌, length, take, drop}
use Rattle.std.proofs.Common.{Option, Some, None, inl, inr, refl, sym, ap, append-nil, subst, ◌∙◌, arith}
use Rattle.std.proofs.Common.{length-append, take-append-drop, append_assoc, Result, Ok, Err, OnOk, get_or, true}
use Rattle.std.proofs.lemmas.Bool.{eq-eqb}
use Rattle.memchr.specs.Find.{IsFirstByte, is_byte}
use Rattle.std.specs.declared.alloc.AllocError.{AllocError}
use Rattle.cbor_grammar.specs.declared.width.IntegerWidth.{IntegerWidth}
use Rattle.cbor_grammar.specs.Head.{head, opening}
use Rattle.cbor_grammar.specs.Item as spec
use Rattle.cbor_grammar.specs.Item.{integer, negative, string, chunked_string, float, simple, Item, atom}
use Rattle.cbor_grammar.specs.Item.{array, tagged, Items, no_items, item, Pairs, no_pairs, pair, item_count, pair_count}
use Rattle.cbor_grammar.specs.Bytes.{any, MembersThen, Spells, SpellsItems, SpellsPairs}
use Rattle.cbor_grammar.specs.mirror.StrictHeads.{LongSimple, NoLongSimple}
use Rattle.cbor_bytes.proofs.bytes.NoLongSimple.{plainly_spelled}
use Rattle.cbor_grammar.specs.Facts.{IsItem, BeginsWithItem}
use Rattle.std.specs.List.{AllByRecursion}
use Rattle.cbor_grammar.specs.Item.{Chunk}
use Rattle.cbor_grammar.specs.Written.{encoded}
use Rattle.cbor_grammar.specs.declared.strings.StringKind.{StringKind}
use Rattle.cbor_grammar.specs.declared.strings.StringKind.TheVariants.{Bytes, Text}
use Rattle.cbor_rules.specs.declared.rules.KeyOrder.TheVariants.{Any}
use Rattle.cbor_rules.specs.Keeps.{Keeps, KeepsItems, KeepsPairs, KeepsNumber, KeepsCount, KeepsChunk, KeysAfter}
use Rattle.cbor_rules.specs.Keeps.{KeysInOrder, KeepsRules}
use Rattle.cbor_rules.specs.Sets.{rfc_8949}
use Rattle.cbor_inspect.specs.Rfc8949.{NoPair}
use Rattle.cbor_bytes.specs.declared.skip.answer.Extent.{Extent}
use Rattle.cbor_bytes.specs.declared.skip.answer.Extent.TheVariants as extent
use Rattle.cbor_bytes.specs.Extent.{IsExtent}
use Rattle.cbor_inspect.specs.Rfc8949.{Is8949, ItemsThen8949, IsSequence8949}
use Rattle.cbor_inspect.specs.Rfc8949.{BeginsNo8949}
use Rattle.cbor_paths.proofs.Fronts.{front_length, take_front, drop_front, same_rest}

-- ---- parts of bytes

in_front : (x rest : List ℕ) → NoPair (x ++ rest) → NoPair x
in_front [] rest none = tt
in_front (a ∷ []) rest none = tt
in_front (a ∷ (n ∷ x)) rest none = (none.0, in_front (n ∷ x) rest none.1)

after_one : (a : ℕ) (b : List ℕ) → NoPair (a ∷ b) → NoPair b
after_one a [] none = tt
after_one a (n ∷ b) none = none.1

behind : (x rest : List ℕ) → NoPair (x ++ rest) → NoPair rest
behind [] rest none = none
behind (a ∷ x) rest none = behind x rest (after_one a (x ++ rest) none)

no_long_here : (b : List ℕ) → NoPair b → ¬ (LongSimple b)
no_long_here [] none long = long
no_long_here (a ∷ []) none long = long
no_long_here (a ∷ (n ∷ b)) none long =
    let least : 32 ≤ n = none.0 long.0 in
    omega (arith, least, long.1)

no_long : (b : List ℕ) → NoPair b → NoLongSimple b
no_long b none zero = no_long_here b none
no_long [] none (suc k) = λ long. long
no_long (a ∷ b) none (suc k) = no_long b (after_one a b none) k

-- ---- items

record MembersOf (b : List ℕ) (Members : List ℕ → List ℕ → Type 0) : Type 0 where
  rest : List ℕ
  end : List ℕ
  are : Members rest end
  none : NoPair rest

members_of : (major n : ℕ) (w : Option IntegerWidth) (b : List ℕ) (Members : List ℕ → List ℕ → Type 0)
    → MembersThen major n w b Members → NoPair b → MembersOf b Members
members_of major n (Some w) b Members (fits, rest, is, members) none = record {
  rest = rest;
  end = [];
  are = members;
  none = behind (head major n w) rest (subst NoPair is none);
}
members_of major n None b Members (rest, is, members) none = record {
  rest = rest;
  end = _;
  are = members;
  none = behind (opening major ∷ []) rest (subst NoPair is none);
}

-- no rule on widths, on order or on texts is one of these
number_kept : (n : ℕ) (w : IntegerWidth) → KeepsNumber rfc_8949 n w
number_kept n w = λ on. absurd cc

count_kept : (n : ℕ) (w : Option IntegerWidth) → KeepsCount rfc_8949 n w
count_kept n (Some w) = number_kept n w
count_kept n None = λ on. absurd cc

chunk_kept : (kind : StringKind) (c : Chunk) → KeepsChunk rfc_8949 kind c
chunk_kept Bytes c = (number_kept (length c.bytes) c.width, tt)
chunk_kept Text c = (number_kept (length c.bytes) c.width, λ on. absurd cc)

chunks_kept : (kind : StringKind) (cs : List Chunk) → AllByRecursion (KeepsChunk rfc_8949 kind) cs
chunks_kept kind [] = tt
chunks_kept kind (c ∷ cs) = (chunk_kept kind c, chunks_kept kind cs)

after_kept : (last : List ℕ) (ps : Pairs) → KeysAfter Any last ps
after_kept last no_pairs = tt
after_kept last (pair k v ps) = (refl, after_kept (encoded k) ps)

order_kept : (ps : Pairs) → KeysInOrder Any ps
order_kept no_pairs = tt
order_kept (pair k v ps) = after_kept (encoded k) ps

mutual
  item_kept : (level : ℕ) (b : List ℕ) (i : Item) → Spells any level b i → NoPair b → Keeps rfc_8949 level i
  item_kept level b (atom (integer n w)) h none = number_kept n w
  item_kept level b (atom (negative n w)) h none = number_kept n w
  item_kept level b (atom (string kind c)) h none = chunk_kept kind c
  item_kept level b (atom (chunked_string kind cs)) h none = ((λ on. absurd cc), chunks_kept kind cs)
  item_kept level b (atom (float bits w)) h none = ((λ on. absurd cc), (λ on. absurd cc))
  item_kept level b (atom (simple n)) (le, inl h) none = (inl h.0, inl refl)
  item_kept level b (atom (simple n)) (le, inr h) none =
      let two = subst NoPair h.1 none in
      (inr (two.0 refl), inl refl)
  item_kept level b (array is w) h none =
      let m = members_of 4 (item_count is) w b _ h.1 none in
      (h.0, count_kept (item_count is) w, items_kept (level + 1) m.rest is m.end m.are m.none)
  item_kept level b (spec.map ps w) h none =
      let m = members_of 5 (pair_count ps) w b _ h.1 none in (
        h.0,
        count_kept (pair_count ps) w,
        pairs_kept (level + 1) m.rest ps m.end m.are m.none,
        order_kept ps,
        (λ on. absurd cc),
      )
  item_kept level b (tagged t w i) (le, (fits, rest, is, below)) none = (
    refl,
    number_kept t w,
    (λ on. absurd cc),
    item_kept (level + 1) rest i below (behind (head 6 t w) rest (subst NoPair is none)),
  )

  items_kept : (level : ℕ) (b : List ℕ) (is : Items) (end : List ℕ) → SpellsItems any level b is end → NoPair b
      → KeepsItems rfc_8949 level is
  items_kept level b no_items end h none = tt
  items_kept level b (item i is) end h none =
      let whole = subst NoPair h.2 none in
      (item_kept level h.0 i h.3 (in_front h.0 h.1 whole), items_kept level h.1 is end h.4 (behind h.0 h.1 whole))

  pairs_kept : (level : ℕ) (b : List ℕ) (ps : Pairs) (end : List ℕ) → SpellsPairs any level b ps end → NoPair b
      → KeepsPairs rfc_8949 level ps
  pairs_kept level b no_pairs end h none = tt
  pairs_kept level b (pair k v ps) end h none =
      let whole = subst NoPair h.3 none in
      let after = behind h.0 (h.1 ++ h.2) whole in (
        item_kept level h.0 k h.4 (in_front h.0 (h.1 ++ h.2) whole),
        item_kept level h.1 v h.5 (in_front h.1 h.2 after),
        pairs_kept level h.2 ps end h.6 (behind h.1 h.2 after),
      )

-- an item in such bytes is one by RFC 8949
pub plain_is_8949 : (b : List ℕ) (i : Item) → IsItem b i → NoPair b → Is8949 b
plain_is_8949 b i is none =
    let kept : KeepsRules rfc_8949 b = (
      item i no_items,
      (b, [], sym (append-nil b), plainly_spelled 1 b i is (no_long b none), refl),
      (item_kept 1 b i is none, tt),
    ) in
    (i, (is, kept))

-- ---- steps of the search

pub none_at_end : (b : List ℕ) (k : ℕ) → length b ≤ k + 1 → NoPair (drop k b)
none_at_end [] zero le = tt
none_at_end [] (suc k) le = tt
none_at_end (a ∷ []) zero le = tt
none_at_end (a ∷ (n ∷ b)) zero le = absurd (omega (arith, le))
none_at_end (a ∷ b) (suc k) le = none_at_end b k (omega (arith, le))

-- where no byte before a place is 0xf8, and no pair stands from there on
clear_before : (b : List ℕ) (at : ℕ) → ((k : ℕ) → k < at → k < length b → ¬ (is_byte 0xf8 (get_or b k 0) ≡ true))
    → NoPair (drop at b) → NoPair b
clear_before b zero clear none = none
clear_before [] (suc at) clear none = tt
clear_before (a ∷ []) (suc at) clear none = tt
clear_before (a ∷ (n ∷ b)) (suc at) clear none = (
  (λ is. absurd (clear 0 (omega arith) (omega arith) (eq-eqb a 0xf8 is))),
  clear_before (n ∷ b) at (λ k lt within. clear (suc k) (omega arith) (omega arith)) none,
)

pub no_f8 : (b : List ℕ) → IsFirstByte (is_byte 0xf8) b None → NoPair b
no_f8 b none =
    clear_before b (length b) (λ k lt within. none k (omega arith) within) (none_at_end b (length b) (omega arith))

pub before_f8 : (b : List ℕ) (at : ℕ) → IsFirstByte (is_byte 0xf8) b (Some at) → NoPair (drop at b) → NoPair b
before_f8 b at first = clear_before b at (λ k lt within. first.0.before k (omega arith) lt)

-- ---- items one after the other

pub items_then_8949 : (b : List ℕ) (is js : List Item) (mid rest : List ℕ) → ItemsThen8949 b is mid
    → ItemsThen8949 mid js rest → ItemsThen8949 b (is ++ js) rest
items_then_8949 b [] js mid rest first more = subst (λ (x : List ℕ). ItemsThen8949 x js rest) (sym first) more
items_then_8949 b (i ∷ is) js mid rest first more =
    (first.0, first.1, first.2, first.3, items_then_8949 first.1 is js mid rest first.4 more)

pub one_passed_8949 : (b rest new : List ℕ) (n : ℕ) → (items : List Item) × ItemsThen8949 b items rest
    → Is8949 (take n rest) → new ≡ drop n rest → (items : List Item) × ItemsThen8949 b items new
one_passed_8949 b rest new n before is next = (
  before.0 ++ is.0 ∷ [],
  items_then_8949 b before.0 (is.0 ∷ []) rest new before.1
      (take n rest, drop n rest, sym (take-append-drop n rest), is.1, sym next),
)

-- one more item is passed, of bytes that were scanned
pub scanned_passed_8949 : (b rest scanned new : List ℕ) (n : ℕ) → (items : List Item) × ItemsThen8949 b items rest
    → scanned ≡ rest → Is8949 (take n scanned) → new ≡ drop n scanned → (items : List Item) × ItemsThen8949 b items new
scanned_passed_8949 b rest scanned new n before same is next =
    one_passed_8949 b scanned new n
    (before.0, subst (λ (x : List ℕ). ItemsThen8949 b before.0 x) (sym same) before.1) is next

-- the item at the front of such items
pub record Front8949 (b : List ℕ) : Type 0 where
  pub length : ℕ
  pub begins : (i : Item) × BeginsWithItem b i length
  pub is : Is8949 (take length b)
  pub later : IsSequence8949 (drop length b)

pub front_8949 : (b : List ℕ) (items : List Item) → (b ≡ [] → ⊥) → ItemsThen8949 b items [] → Front8949 b
front_8949 b [] some h = absurd (some h)
front_8949 b (k ∷ ks) some h =
    let front = h.0 in
    let after = h.1 in
    let whole : b ≡ front ++ after = h.2 in
    let long : length b ≡ length front + length after = ap length whole ∙ length-append front after in
    let taken : take (length front) b ≡ front = ap (take (length front)) whole ∙ take_front front after in
    let left : drop (length front) b ≡ after = ap (drop (length front)) whole ∙ drop_front front after in
    record {
      length = length front;
      begins = (
        k,
        (front_length front k h.3.0, omega (arith, long), subst (λ (x : List ℕ). IsItem x k) (sym taken) h.3.0),
      );
      is = subst Is8949 (sym taken) (k, h.3);
      later = subst IsSequence8949 (sym left) (ks, h.4);
    }

-- what a scan of the bytes that are left may answer
abbrev Only : List ℕ → Extent → Type 0
Only rest result = (answer : Extent) → IsExtent rest answer → ◌≡◌ {A = Extent} result answer

abbrev Later : List ℕ → List ℕ → Type 0
Later b rest = IsSequence8949 b → IsSequence8949 rest

-- if all bytes are such items, those that are left begin with one
pub begins_so_8949 : (b rest scanned : List ℕ) → Later b rest → (rest ≡ [] → ⊥) → scanned ≡ rest → IsSequence8949 b
    → Front8949 scanned
begins_so_8949 b rest scanned so_far some same whole =
    let later = so_far whole in
    subst Front8949 (sym same) (front_8949 rest later.0 some later.1)

pub later_passed_8949 : (b rest scanned new : List ℕ) (n : ℕ) → Later b rest → (rest ≡ [] → ⊥) → scanned ≡ rest
    → Only scanned (extent.Item n) → new ≡ drop n scanned → Later b new
later_passed_8949 b rest scanned new n so_far some same only next whole =
    let front = begins_so_8949 b rest scanned so_far some same whole in
    let at : n ≡ front.length = cc (only (extent.Item front.length) front.begins) in
    subst IsSequence8949 (sym next) (subst (λ (k : ℕ). IsSequence8949 (drop k scanned)) (sym at) front.later)

pub none_8949 : (b rest scanned : List ℕ) (n at : ℕ) → Later b rest → (rest ≡ [] → ⊥) → scanned ≡ rest
    → Only scanned (extent.Item n) → BeginsNo8949 scanned at → IsSequence8949 b → ⊥
none_8949 b rest scanned n at so_far some same only (i, m, begins, other, two) whole =
    let front = begins_so_8949 b rest scanned so_far some same whole in
    let first : n ≡ front.length = cc (only (extent.Item front.length) front.begins) in
    let second : n ≡ m = cc (only (extent.Item m) (i, begins)) in
    other (subst (λ (k : ℕ). Is8949 (take k scanned)) (sym first ∙ second) front.is)

pub sequence_with_8949 : (b rest : List ℕ) (before : List Item) → ItemsThen8949 b before rest → IsSequence8949 rest
    → IsSequence8949 b
sequence_with_8949 b rest before first later =
    (before ++ later.0, items_then_8949 b before later.0 rest [] first later.1)

-- if the bytes are such items, so are those after the first of them
pub rest_of_items_8949 : (b rest : List ℕ) (before all : List Item) → ItemsThen8949 b before rest
    → ItemsThen8949 b all [] → IsSequence8949 rest
rest_of_items_8949 b rest [] all first whole =
    (all, subst (λ (x : List ℕ). ItemsThen8949 x all []) first whole)
rest_of_items_8949 b rest (i ∷ is) [] first whole =
    let none : length first.0 + length first.1 ≡ 0 =
    sym (length-append first.0 first.1) ∙ ap length (sym first.2 ∙ whole) in
    absurd (omega (arith, none, front_length first.0 i first.3.0))
rest_of_items_8949 b rest (i ∷ is) (j ∷ js) first whole =
    let same = same_rest whole.0 first.0 whole.1 first.1 j i whole.3.0 first.3.0 (sym whole.2 ∙ first.2) in
    rest_of_items_8949 first.1 rest is js first.4 (subst (λ (x : List ℕ). ItemsThen8949 x js []) same whole.4)

-- bytes that come later change no items
pub came_later_8949 : (came more : List ℕ) (items : List Item) (rest : List ℕ) → ItemsThen8949 came items rest
    → ItemsThen8949 (came ++ more) items (rest ++ more)
came_later_8949 came more [] rest h = ap (λ (x : List ℕ). x ++ more) h
came_later_8949 came more (i ∷ is) rest h = (
  h.0,
  h.1 ++ more,
  ap (λ (x : List ℕ). x ++ more) h.2 ∙ append_assoc h.0 h.1 more,
  h.3,
  came_later_8949 h.1 more is rest h.4,
)

pub checked_if_came : (r : Result (Unit {0}) AllocError) (came : List ℕ) (items : List Item)
    (old bytes new : List ℕ) → OnOk r (new ≡ old ++ bytes)
    → OnOk r (ItemsThen8949 came items old → ItemsThen8949 (came ++ bytes) items new)
checked_if_came (Ok u) came items old bytes new is = λ h.
    subst (λ (x : List ℕ). ItemsThen8949 (came ++ bytes) items x) (sym is)
    (came_later_8949 came bytes items old h)
checked_if_came (Err e) came items old bytes new is = tt
