-- For `item_ahead`, `items_ahead` and `pairs_ahead`: they take from the budget the estimated length of the item that
-- reading gives, or find that the item takes the whole budget (`Estimates`). Each turn of the loops over items and
-- pairs keeps `ItemsSoFar` or `PairsSoFar`.
use Rattle.std.proofs.Common.{◌≡◌, ℕ, zero, suc, ◌+◌, ◌-◌, ◌<◌, ◌≤◌, List, Option, Some, None}
use Rattle.std.proofs.Common.{Ok, IfSome, ◌⊎◌, inl, inr, refl, sym, ap, subst, ◌∙◌, arith}
use Rattle.cbor_grammar.specs.declared.width.IntegerWidth.{IntegerWidth}
use Rattle.cbor_notation_writer.specs.declared.ahead.Ahead.{Ahead}
use Rattle.cbor_grammar.specs.declared.argument.Argument.{Argument}
use Rattle.cbor_grammar.specs.Estimate.{digit_count, estimated_length, estimated_items, estimated_pairs}
use Rattle.cbor_grammar.specs.Item as spec
use Rattle.cbor_grammar.specs.Item.{Item, Items, no_items, item, Pairs, no_pairs, pair, array, tagged}
use Rattle.cbor_grammar.specs.declared.head.ItemHead.TheVariants as item_head
use Rattle.cbor_grammar.specs.declared.head.ItemHead.{ItemHead}
use Rattle.cbor_grammar.specs.Reading.{Counted, ◌>>-◌, Frame, items_in, pairs_in, value_of, tag_of, tagged_with}
use Rattle.cbor_grammar.specs.Reading.{joined, joined_pairs, one_less, put, after_members, after_end, closed, close_or}
use Rattle.cbor_grammar.specs.Reading.{count_width, parts_from, read_head, counted_item, read_item}
use Rattle.cbor_notation_writer.specs.mirror.Ahead.{Leaves, Estimates, front_read}
use Rattle.cbor_grammar.specs.mirror.AtLevel.{body_read}
use Rattle.cbor_grammar.specs.mirror.Lengths.{left_of}
use Rattle.cbor_grammar.proofs.bytes.Heads.{then_ok, ok_is}
use Rattle.cbor_grammar.proofs.bytes.Steps.{parts_more, item_shortens}
use Rattle.cbor_bytes.proofs.reading.Readings.{parts_read, parts_ended, none_held}
use Rattle.cbor_bytes.proofs.bytes.Remaining.{left_less}
use Rattle.cbor_bytes.proofs.reading.Readings.{item_after}

-- ---- what is left of a budget

-- what a part leaves is at most what it was given
pub at_most : (found : Option Ahead) (left most : ℕ) → left ≤ most → IfSome found (λ a. (0 < a.left) × (a.left ≡ left))
    → IfSome found (λ a. (0 < a.left) × (a.left ≤ most))
at_most (Some a) left most le h = (h.0, omega (arith, h.1))
at_most None left most le h = tt

-- a container takes more than two
pub takes_two : (found : Option Ahead) (budget left : ℕ) → left ≡ budget - 4
    → IfSome found (λ a. (0 < a.left) × (a.left ≤ left)) → IfSome found (λ a. (0 < a.left) × (a.left + 2 ≤ budget))
takes_two (Some a) budget left is h = (h.0, omega (arith, h.0, h.1, is))
takes_two None budget left is h = tt

-- the brackets of a container take four
bracketed : (found : Option Ahead) (budget left size : ℕ) (rest : List ℕ) → left ≡ budget - 4
    → IfSome found (λ a. (0 < a.left) × (a.left ≤ left)) → Leaves found (4 + left) size rest
    → Leaves found budget size rest
bracketed (Some a) budget left size rest is takes h = (omega (arith, h.0, h.1, takes.1, is), h.1, h.2)
bracketed None budget left size rest is takes h = omega (arith, h, is)

-- what is before it takes something, too
leaves_after : (found : Option Ahead) (budget left before size : ℕ) (rest : List ℕ) → left ≡ budget - before
    → Leaves found left size rest → Leaves found budget (before + size) rest
leaves_after (Some a) budget left before size rest is h = (omega (arith, h.0, h.1, is), h.1, h.2)
leaves_after None budget left before size rest is h = omega (arith, h, is)

-- ---- heads

-- what was found after the head was found of the item
pub headed : (found : Option Ahead) (budget : ℕ) (b : List ℕ) (h : ItemHead) (rest : List ℕ)
    → read_head b ≡ Ok (h, rest) → Estimates found budget (body_read h rest) → Estimates found budget (front_read b)
headed found budget b h rest head finds levels i after is =
    let t = item_after levels b h rest (i, after) head is in
    finds t.0 i after t.1

-- the head is the item
pub atom_found : (found : Option Ahead) (budget : ℕ) (h : ItemHead) (i : Item) (b : List ℕ)
    → ((n : ℕ) → body_read h b n ≡ Ok (i, b)) → Leaves found budget (estimated_length i) b
    → Estimates found budget (body_read h b)
atom_found found budget h i b whole finds levels j rest is =
    subst (λ (x : Item × List ℕ). Leaves found budget (estimated_length x.0) x.1)
    (ok_is (i, b) (j, rest) (sym (whole levels) ∙ is)) finds

pub container_found : (found : Option Ahead) (budget left : ℕ) (h : ItemHead) (b : List ℕ) → left ≡ budget - 4
    → IfSome found (λ a. (0 < a.left) × (a.left ≤ left)) → Estimates found (4 + left) (body_read h b)
    → Estimates found budget (body_read h b)
container_found found budget left h b same takes finds levels i rest is =
    bracketed found budget left (estimated_length i) rest same takes (finds levels i rest is)

-- ---- the parts of a container

-- a part of an open container was read, and the rest of it after that
pub part_step : (levels : ℕ) (f : Frame) (b : List ℕ) (x : Item × List ℕ) → after_end f b ≡ None
    → parts_read levels f b ≡ Ok x
    → (y : Item × List ℕ) × (read_item levels b ≡ Ok y) × (parts_read levels (put f y.0) y.1 ≡ Ok x)
part_step levels f b x none is =
    then_ok (counted_item levels b) _ x
    (sym (ap (λ (c : Counted Item). c.1) (parts_more (counted_item levels) (item_shortens levels) f b none)) ∙ is)

pub tag_found : (found : Option Ahead) (budget left t : ℕ) (w : IntegerWidth) (b : List ℕ)
    → left ≡ budget - (digit_count t + 2) → Estimates found left (front_read b)
    → Estimates found budget (body_read (item_head.Tag t w) b)
tag_found found budget left t w b same finds levels i rest is =
    let step = part_step levels (tag_of t w) b (i, rest) refl is in
    let y = step.0 in
    let whole = parts_ended levels (tagged_with t w y.0) y.1 y.1 (tagged t w y.0) refl refl in
    subst (λ (x : Item × List ℕ). Leaves found budget (estimated_length x.0) x.1)
    (ok_is (tagged t w y.0, y.1) (i, rest) (sym whole ∙ step.2))
    (leaves_after found budget left (digit_count t + 2) (estimated_length y.0) y.1 same (finds levels y.0 y.1 step.1))

-- how long what an open container holds is at least
abbrev held_length : Frame → ℕ
held_length (items_in is a) = 4 + estimated_items is
held_length (pairs_in ps a) = 4 + estimated_pairs ps
held_length (value_of ps k a) = 4 + estimated_pairs ps + estimated_length k
held_length (tag_of t w) = 0
held_length (tagged_with t w i) = 0

pub items_longer : (is : Items) (i : Item)
    → estimated_items (joined is (item i no_items)) ≡ estimated_items is + (estimated_length i + 2)
items_longer no_items i = omega arith
items_longer (item j is) i = omega (arith, items_longer is i)

pub pairs_longer : (ps : Pairs) (k v : Item) → estimated_pairs (joined_pairs ps (pair k v no_pairs))
    ≡ estimated_pairs ps + (estimated_length k + estimated_length v + 2)
pairs_longer no_pairs k v = omega arith
pairs_longer (pair j u ps) k v = omega (arith, pairs_longer ps k v)

put_longer : (f : Frame) (i : Item) → held_length f ≤ held_length (put f i)
put_longer (items_in is a) i = omega (arith, items_longer is i)
put_longer (pairs_in ps a) i = omega arith
put_longer (value_of ps k a) i = omega (arith, pairs_longer ps k i)
put_longer (tag_of t w) i = omega arith
put_longer (tagged_with t w j) i = omega arith

closed_longer : (f : Frame) (i : Item) → closed f ≡ Some i → held_length f ≤ estimated_length i
closed_longer (items_in is a) i e =
    let same : array is (count_width a) ≡ i = cc in omega (arith, ap estimated_length same)
closed_longer (pairs_in ps a) i e =
    let same : spec.map ps (count_width a) ≡ i = cc in omega (arith, ap estimated_length same)
closed_longer (value_of ps k a) i e = absurd cc
closed_longer (tag_of t w) i e = omega arith
closed_longer (tagged_with t w j) i e = omega arith

closes : (o : Option Item) (end : Option (List ℕ)) (more : Counted Item) (x : Item × List ℕ)
    → (close_or o end more).1 ≡ Ok x → (o ≡ Some x.0) ⊎ (more.1 ≡ Ok x)
closes (Some i) (Some after) more x e =
    let same : (i, after) ≡ x = ok_is (i, after) x e in inl (ap (λ (y : Item × List ℕ). Some y.0) same)
closes (Some i) None more x e = inr e
closes None end more x e = inr e

grows : (n levels : ℕ) (f : Frame) (b : List ℕ) (x : Item × List ℕ) → (parts_from n (counted_item levels) f b).1 ≡ Ok x
    → held_length f ≤ estimated_length x.0
unfolding parts_from
grows zero levels f b x e = absurd cc
grows (suc n) levels f b x e =
    let next = λ (i : Item × List ℕ). parts_from n (counted_item levels) (put f i.0) i.1 in
    elim (closes (closed f) (after_end f b) (counted_item levels b >>- next) x e) [
      | inl ended ↦ closed_longer f x.0 ended
      | inr more ↦
          let t = then_ok (counted_item levels b) next x more in
          omega (arith, put_longer f t.0.0, grows n levels (put f t.0.0) t.0.1 x t.2)
    ]

-- ---- the items of an array

-- After the first `held` items of an array this is left of the budget, and these bytes.
abbrev pub ItemsSoFar : ℕ → Argument → List ℕ → ℕ → ℕ → List ℕ → Type 0
ItemsSoFar budget count b held left rest = (levels : ℕ) (x : Item × List ℕ)
    → body_read (item_head.Array count) b levels ≡ Ok x
    → (is : Items) × (parts_read levels (items_in is (left_of count held)) rest ≡ Ok x)
    × (left ≡ budget - estimated_items is)

pub no_items_yet : (budget : ℕ) (count : Argument) (b : List ℕ) → ItemsSoFar budget count b 0 budget b
no_items_yet budget count b levels x is = (
  no_items,
  ap (λ a. parts_read levels (items_in no_items a) b) (none_held count) ∙ is,
  omega arith,
)

pub one_item_more : (budget : ℕ) (count : Argument) (b : List ℕ) (held left : ℕ) (rest : List ℕ)
    (a : Ahead) → ItemsSoFar budget count b held left rest → None ≡ after_members (left_of count held) rest
    → Estimates (Some a) left (front_read rest) → ItemsSoFar budget count b (held + 1) (a.left - 2) a.rest.now
one_item_more budget count b held left rest a so_far none finds levels x is =
    let s = so_far levels x is in
    let step = part_step levels (items_in s.0 (left_of count held)) rest x (sym none) s.1 in
    let found = finds levels step.0.0 step.0.1 step.1 in
    let next : parts_read levels (items_in (joined s.0 (item step.0.0 no_items)) (left_of count (held + 1))) a.rest.now
    ≡ Ok x =
    ap (λ z. parts_read levels (items_in (joined s.0 (item step.0.0 no_items)) z) a.rest.now) (left_less count held)
    ∙ ap (λ z. parts_read levels (items_in (joined s.0 (item step.0.0 no_items)) (one_less (left_of count held))) z)
    found.2 ∙ step.2 in (
      joined s.0 (item step.0.0 no_items),
      next,
      omega (arith, items_longer s.0 step.0.0, found.0, found.1, s.2),
    )

-- an item takes all that is left
pub item_takes_all : (budget : ℕ) (count : Argument) (b : List ℕ) (held left : ℕ) (rest : List ℕ)
    → ItemsSoFar budget count b held left rest → None ≡ after_members (left_of count held) rest
    → Estimates None left (front_read rest) → Estimates None (4 + budget) (body_read (item_head.Array count) b)
item_takes_all budget count b held left rest so_far none finds levels i after is =
    let s = so_far levels (i, after) is in
    let step = part_step levels (items_in s.0 (left_of count held)) rest (i, after) (sym none) s.1 in
    let found : left ≤ estimated_length step.0.0 = finds levels step.0.0 step.0.1 step.1 in
    let longer = grows _ levels _ step.0.1 (i, after) step.2 in
    omega (arith, items_longer s.0 step.0.0, found, s.2, longer)

pub items_found : (found : Option Ahead) (budget : ℕ) (count : Argument) (b : List ℕ) (held left : ℕ)
    (rest after : List ℕ) → ItemsSoFar budget count b held left rest
    → Some after ≡ after_members (left_of count held) rest
    → ((all size : ℕ) → left ≡ all - size → Leaves found all size after)
    → Estimates found (4 + budget) (body_read (item_head.Array count) b)
items_found found budget count b held left rest after so_far ends finds levels i end is =
    let s = so_far levels (i, end) is in
    let whole = parts_ended levels (items_in s.0 (left_of count held)) rest after
    (array s.0 (count_width (left_of count held))) refl (sym ends) in
    subst (λ (x : Item × List ℕ). Leaves found (4 + budget) (estimated_length x.0) x.1)
    (ok_is (array s.0 (count_width (left_of count held)), after) (i, end) (sym whole ∙ s.1))
    (finds (4 + budget) (4 + estimated_items s.0) (omega (arith, s.2)))

-- ---- the pairs of a map

-- After the first `held` pairs of a map this is left of the budget, and these bytes.
abbrev pub PairsSoFar : ℕ → Argument → List ℕ → ℕ → ℕ → List ℕ → Type 0
PairsSoFar budget count b held left rest = (levels : ℕ) (x : Item × List ℕ)
    → body_read (item_head.Map count) b levels ≡ Ok x
    → (ps : Pairs) × (parts_read levels (pairs_in ps (left_of count held)) rest ≡ Ok x)
    × (left ≡ budget - estimated_pairs ps)

pub no_pairs_yet : (budget : ℕ) (count : Argument) (b : List ℕ) → PairsSoFar budget count b 0 budget b
no_pairs_yet budget count b levels x is = (
  no_pairs,
  ap (λ a. parts_read levels (pairs_in no_pairs a) b) (none_held count) ∙ is,
  omega arith,
)

-- a key and its value were read, and the rest of the map after them
pair_step : (levels : ℕ) (ps : Pairs) (a : Argument) (b : List ℕ) (x : Item × List ℕ) → after_members a b ≡ None
    → parts_read levels (pairs_in ps a) b ≡ Ok x
    → (k v : Item × List ℕ) × (read_item levels b ≡ Ok k) × (read_item levels k.1 ≡ Ok v)
    × (parts_read levels (pairs_in (joined_pairs ps (pair k.0 v.0 no_pairs)) (one_less a)) v.1 ≡ Ok x)
pair_step levels ps a b x none is =
    let key = part_step levels (pairs_in ps a) b x none is in
    let value = part_step levels (value_of ps key.0.0 (one_less a)) key.0.1 x refl key.2 in
    (key.0, value.0, key.1, value.1, value.2)

pub one_pair_more : (budget : ℕ) (count : Argument) (b : List ℕ) (held left : ℕ) (rest : List ℕ)
    (key value : Ahead) → PairsSoFar budget count b held left rest → None ≡ after_members (left_of count held) rest
    → Estimates (Some key) left (front_read rest) → Estimates (Some value) key.left (front_read key.rest.now)
    → PairsSoFar budget count b (held + 1) (value.left - 2) value.rest.now
one_pair_more budget count b held left rest key value so_far none finds_key finds_value levels x is =
    let s = so_far levels x is in
    let step = pair_step levels s.0 (left_of count held) rest x (sym none) s.1 in
    let k = finds_key levels step.0.0 step.0.1 step.2 in
    let read_value : read_item levels key.rest.now ≡ Ok (step.1.0, step.1.1) =
    ap (λ z. read_item levels z) k.2 ∙ step.3 in
    let v = finds_value levels step.1.0 step.1.1 read_value in
    let qs : Pairs = joined_pairs s.0 (pair step.0.0 step.1.0 no_pairs) in
    let next : parts_read levels (pairs_in qs (left_of count (held + 1))) value.rest.now ≡ Ok x =
    ap (λ z. parts_read levels (pairs_in qs z) value.rest.now) (left_less count held)
    ∙ ap (λ z. parts_read levels (pairs_in qs (one_less (left_of count held))) z) v.2 ∙ step.4 in
    (qs, next, omega (arith, pairs_longer s.0 step.0.0 step.1.0, k.0, k.1, v.0, v.1, s.2))

-- a key takes all that is left, or its value does
pub key_takes_all : (budget : ℕ) (count : Argument) (b : List ℕ) (held left : ℕ) (rest : List ℕ)
    → PairsSoFar budget count b held left rest → None ≡ after_members (left_of count held) rest
    → Estimates None left (front_read rest) → Estimates None (4 + budget) (body_read (item_head.Map count) b)
key_takes_all budget count b held left rest so_far none finds levels i after is =
    let s = so_far levels (i, after) is in
    let step = pair_step levels s.0 (left_of count held) rest (i, after) (sym none) s.1 in
    let k : left ≤ estimated_length step.0.0 = finds levels step.0.0 step.0.1 step.2 in
    let longer = grows _ levels _ step.1.1 (i, after) step.4 in
    omega (arith, pairs_longer s.0 step.0.0 step.1.0, k, s.2, longer)

pub value_takes_all : (budget : ℕ) (count : Argument) (b : List ℕ) (held left : ℕ) (rest : List ℕ)
    (key : Ahead) → PairsSoFar budget count b held left rest → None ≡ after_members (left_of count held) rest
    → Estimates (Some key) left (front_read rest) → Estimates None key.left (front_read key.rest.now)
    → Estimates None (4 + budget) (body_read (item_head.Map count) b)
value_takes_all budget count b held left rest key so_far none finds_key finds_value levels i after is =
    let s = so_far levels (i, after) is in
    let step = pair_step levels s.0 (left_of count held) rest (i, after) (sym none) s.1 in
    let k = finds_key levels step.0.0 step.0.1 step.2 in
    let read_value : read_item levels key.rest.now ≡ Ok (step.1.0, step.1.1) =
    ap (λ z. read_item levels z) k.2 ∙ step.3 in
    let v : key.left ≤ estimated_length step.1.0 = finds_value levels step.1.0 step.1.1 read_value in
    let longer = grows _ levels _ step.1.1 (i, after) step.4 in
    omega (arith, pairs_longer s.0 step.0.0 step.1.0, k.0, k.1, v, s.2, longer)

pub pairs_found : (found : Option Ahead) (budget : ℕ) (count : Argument) (b : List ℕ) (held left : ℕ)
    (rest after : List ℕ) → PairsSoFar budget count b held left rest
    → Some after ≡ after_members (left_of count held) rest
    → ((all size : ℕ) → left ≡ all - size → Leaves found all size after)
    → Estimates found (4 + budget) (body_read (item_head.Map count) b)
pairs_found found budget count b held left rest after so_far ends finds levels i end is =
    let s = so_far levels (i, end) is in
    let whole = parts_ended levels (pairs_in s.0 (left_of count held)) rest after
    (spec.map s.0 (count_width (left_of count held))) refl (sym ends) in
    subst (λ (x : Item × List ℕ). Leaves found (4 + budget) (estimated_length x.0) x.1)
    (ok_is (spec.map s.0 (count_width (left_of count held)), after) (i, end) (sym whole ∙ s.1))
    (finds (4 + budget) (4 + estimated_pairs s.0) (omega (arith, s.2)))
