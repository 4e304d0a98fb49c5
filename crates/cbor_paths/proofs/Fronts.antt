-- An item has at least one byte. A sequence of items that is not empty begins with an item, and a sequence follows
-- (`front_of`); after some items of the bytes, the rest is a sequence if and only if the bytes are one. Two items at
-- the front of the same bytes end at the same place (`same_rest`).
use Rattle.std.proofs.Common.{◌≡◌, ℕ, ◌+◌, ◌≤◌, List, [], ◌∷◌, ◌++◌, length, take, drop, Option, Some, None, inl, inr}
use Rattle.std.proofs.Common.{◌<◌, refl, sym, ap, ◌∙◌, subst, arith, length-append}
use Rattle.std.proofs.lemmas.List.{drop-drop, length-drop}
use Rattle.cbor_bytes.specs.declared.skip.answer.Extent.{Extent}
use Rattle.cbor_bytes.specs.declared.skip.answer.Extent.TheVariants as extent
use Rattle.cbor_grammar.specs.declared.width.IntegerWidth.{IntegerWidth}
use Rattle.cbor_grammar.specs.declared.width.IntegerWidth.TheVariants.{Unknown, Zero, Eight, Sixteen, ThirtyTwo}
use Rattle.cbor_grammar.specs.declared.width.IntegerWidth.TheVariants.{SixtyFour}
use Rattle.cbor_grammar.specs.declared.width.FloatWidth.{FloatWidth}
use Rattle.cbor_grammar.specs.declared.width.FloatWidth.TheVariants as float_width
use Rattle.cbor_grammar.specs.Item as spec
use Rattle.cbor_grammar.specs.Item.{integer, negative, string, chunked_string, float, simple, Item, atom, array}
use Rattle.cbor_grammar.specs.Item.{tagged}
use Rattle.cbor_grammar.specs.Head.{HeadThen}
use Rattle.cbor_grammar.specs.Bytes.{any, SpellsFloat, SpellsSimple, MembersThen}
use Rattle.cbor_grammar.specs.Facts.{IsItem, BeginsWithItem}
use Rattle.cbor_grammar.specs.Reading.{read_item}
use Rattle.cbor_grammar.proofs.bytes.Heads.{ok_is}
use Rattle.cbor_grammar.proofs.bytes.FoundAgain.{item_again}
use Rattle.cbor_paths.specs.Sequence.{ItemsThen, IsSequence}
use Rattle.cbor_paths.proofs.Sequences.{item_then, items_then}

-- ---- no bytes are no item

no_head : (major n : ℕ) (w : IntegerWidth) (Rest : List ℕ → Type 0) → HeadThen major n w [] Rest → ⊥
no_head major n Unknown Rest h = h.0
no_head major n Zero Rest h = cc (h.2)
no_head major n Eight Rest h = cc (h.2)
no_head major n Sixteen Rest h = cc (h.2)
no_head major n ThirtyTwo Rest h = cc (h.2)
no_head major n SixtyFour Rest h = cc (h.2)

no_members : (major n : ℕ) (w : Option IntegerWidth) (Members : List ℕ → List ℕ → Type 0)
    → MembersThen major n w [] Members → ⊥
no_members major n (Some w) Members h = no_head major n w (λ rest. Members rest []) h
no_members major n None Members h = cc (h.1)

no_float : (bits : ℕ) (w : FloatWidth) → SpellsFloat [] bits w → ⊥
no_float bits float_width.Unknown h = h
no_float bits float_width.Sixteen h = cc (h.1)
no_float bits float_width.ThirtyTwo h = cc (h.1)
no_float bits float_width.SixtyFour h = cc (h.1)

no_simple : (n : ℕ) → SpellsSimple any [] n → ⊥
no_simple n (inl h) = cc (h.1)
no_simple n (inr h) = cc (h.1)

pub not_empty : (i : Item) → IsItem [] i → ⊥
not_empty (atom (integer n w)) h = no_head 0 n w _ h.1
not_empty (atom (negative n w)) h = no_head 1 n w _ h.1
not_empty (atom (string kind c)) h = no_head _ _ c.width _ h.1.1
not_empty (atom (chunked_string kind cs)) h = cc (h.1.1)
not_empty (atom (float bits w)) h = no_float bits w h.1
not_empty (atom (simple n)) h = no_simple n h.1
not_empty (array is w) h = no_members 4 _ w _ h.1
not_empty (spec.map ps w) h = no_members 5 _ w _ h.1
not_empty (tagged t w i) h = no_head 6 t w _ h.1

-- ---- the front of a sequence

pub front_length : (front : List ℕ) (i : Item) → IsItem front i → 1 ≤ length front
front_length [] i h = absurd (not_empty i h)
front_length (b ∷ bs) i h = omega arith

pub take_front : (front after : List ℕ) → take (length front) (front ++ after) ≡ front
take_front [] after = refl
take_front (b ∷ bs) after = ap (λ (x : List ℕ). b ∷ x) (take_front bs after)

pub drop_front : (front after : List ℕ) → drop (length front) (front ++ after) ≡ after
drop_front [] after = refl
drop_front (b ∷ bs) after = drop_front bs after

-- the item at the front of some items, its length, and that items follow it
pub record Front (b : List ℕ) : Type 0 where
  pub item : Item
  pub length : ℕ
  pub begins : BeginsWithItem b item length
  pub later : IsSequence (drop length b)

pub front_of : (b : List ℕ) (items : List Item) → (b ≡ [] → ⊥) → ItemsThen b items [] → Front b
front_of b [] some h = absurd (some h)
front_of b (k ∷ ks) some h =
    let front = h.0 in
    let after = h.1 in
    let whole : b ≡ front ++ after = h.2 in
    let long : length b ≡ length front + length after = ap length whole ∙ length-append front after in
    record {
      item = k;
      length = length front;
      begins = (
        front_length front k h.3,
        omega (arith, long),
        subst (λ (x : List ℕ). IsItem x k) (sym (ap (take (length front)) whole ∙ take_front front after)) h.3,
      );
      later = (
        ks,
        subst (λ (x : List ℕ). ItemsThen x ks []) (sym (ap (drop (length front)) whole ∙ drop_front front after)) h.4,
      );
    }

-- ---- one item more

pub one_more : (b : List ℕ) (used count : ℕ) → (items : List Item) × ItemsThen b items (drop used b)
    → (i : Item) × BeginsWithItem (drop used b) i count
    → (items : List Item) × ItemsThen b items (drop (used + count) b)
one_more b used count first found =
    let next = rw (drop-drop count used b) at (item_then (drop used b) count found.0 found.1.2) in
    (first.0 ++ found.0 ∷ [], items_then b first.0 (found.0 ∷ []) (drop used b) (drop (used + count) b) first.1 next)

rest_some : (b : List ℕ) (used : ℕ) → used < length b → drop used b ≡ [] → ⊥
rest_some b used within e =
    let none : length (drop used b) ≡ 0 = ap length e in omega (arith, length-drop used b, none)

-- if the bytes are items, so are the bytes after one of them
pub later_too : (b : List ℕ) (used count : ℕ) → used < length b → (IsSequence b → IsSequence (drop used b))
    → ((i : Item) (n : ℕ) → BeginsWithItem (drop used b) i n → ◌≡◌ {A = Extent} (extent.Item count) (extent.Item n))
    → IsSequence b → IsSequence (drop (used + count) b)
later_too b used count within so_far every whole =
    let rest = so_far whole in
    let front = front_of (drop used b) rest.0 (rest_some b used within) rest.1 in
    let same : count ≡ front.length = cc (every front.item front.length front.begins) in
    let later = subst (λ (n : ℕ). IsSequence (drop n (drop used b))) (sym same) front.later in
    rw (drop-drop count used b) at later

-- and there is an item
pub some_front : (b : List ℕ) (used : ℕ) → used < length b → (IsSequence b → IsSequence (drop used b)) → IsSequence b
    → (i : Item) × (n : ℕ) × BeginsWithItem (drop used b) i n
some_front b used within so_far whole =
    let rest = so_far whole in
    let front = front_of (drop used b) rest.0 (rest_some b used within) rest.1 in
    (front.item, front.length, front.begins)

-- ---- the bytes after some items

-- two items at the front of the same bytes end at the same place
pub same_rest : (x y r s : List ℕ) (i j : Item) → IsItem x i → IsItem y j → x ++ r ≡ y ++ s → r ≡ s
same_rest x y r s i j h k e =
    let first = item_again 1 128 x i r refl h in
    let other = item_again 1 128 y j s refl k in
    ap (λ (p : Item × List ℕ). p.1) (ok_is (i, r) (j, s) (sym first ∙ ap (read_item 128) e ∙ other))

-- if the bytes are items, so are those after the first of them
pub rest_of_items : (b rest : List ℕ) (before all : List Item) → ItemsThen b before rest → ItemsThen b all []
    → IsSequence rest
rest_of_items b rest [] all first whole = (all, subst (λ (x : List ℕ). ItemsThen x all []) first whole)
rest_of_items b rest (i ∷ is) [] first whole =
    let none : length first.0 + length first.1 ≡ 0 =
    sym (length-append first.0 first.1) ∙ ap length (sym first.2 ∙ whole) in
    absurd (omega (arith, none, front_length first.0 i first.3))
rest_of_items b rest (i ∷ is) (j ∷ js) first whole =
    let same = same_rest whole.0 first.0 whole.1 first.1 j i whole.3 first.3 (sym whole.2 ∙ first.2) in
    rest_of_items first.1 rest is js first.4 (subst (λ (x : List ℕ). ItemsThen x js []) same whole.4)

pub sequence_with : (b rest : List ℕ) (before : List Item) → ItemsThen b before rest → IsSequence rest → IsSequence b
sequence_with b rest before first later =
    (before ++ later.0, items_then b before later.0 rest [] first later.1)
