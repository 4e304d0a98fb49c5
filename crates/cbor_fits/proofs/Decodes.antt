-- For `read.rt`: what parsing returns decides `decoded`, the value of the bytes, and `front_of`, the item at their
-- front. The loop of `read_items` adds an item per turn until none is at the front; `decoded_sequence` is the array of
-- all values if nothing is left and no map in them has a key twice, and otherwise `None`.
use Rattle.std.proofs.Common.{◌≡◌, ℕ, zero, suc, ◌<◌, List, [], ◌∷◌, ◌++◌, length, drop, Option, Some}
use Rattle.std.proofs.Common.{None}
use Rattle.std.proofs.Common.{Ok, Err, Bool, true, false, ◌||◌, if◌then◌else◌, ◌==◌, ◌+◌, ◌-◌, slice_index}
use Rattle.std.proofs.Common.{refl, sym, ap, ◌∙◌, arith}
use Rattle.cbor_grammar.specs.declared.error.Error.{Error}
use Rattle.cbor_grammar.specs.Item.{Item, Items}
use Rattle.cbor_grammar.specs.Facts.{IsItem, BeginsWithItem, IsCut, HasFault}
use Rattle.cbor_grammar.specs.Reading.{Read}
use Rattle.cbor_grammar.specs.Embedded.{embedded, sequence, sequence_of, and_then}
use Rattle.cbor_grammar.proofs.shared.EmbeddedItems.{embeds_exactly, rejects_exactly}
use Rattle.cbor_fits.specs.Value as spec
use Rattle.cbor_fits.specs.Value.{Value, list_of, values_of}
use Rattle.cbor_fits.specs.Decoded.{decoded, decoded_sequence, array_of_all, value_of, values_of_items, valid_value}
use Rattle.cbor_fits.specs.Decoded.{valid_value_of, has_key_twice, items_have_key_twice}
use Rattle.cbor_fits.proofs.InOrder.{values_of-list_of, or_assoc, or_false}
use Rattle.std.proofs.lemmas.List.{append_assoc, append-nil}
use Rattle.cbor_fits.specs.Reads.{front_item, front_of, listed, after, front_read}

pub decoded_is : (b : List ℕ) (i : Item) → ((k : ℕ) → slice_index b k < 256) → IsItem b i → valid_value i ≡ decoded b
unfolding decoded
decoded_is b i fits here =
    sym (ap valid_value_of (((embeds_exactly 1 b (omega arith) (omega arith) fits).one i).1 here))

-- an item in which a key stands twice, or in which none does
pub valid : (i : Item) (b : Bool) → b ≡ has_key_twice i → valid_value i ≡ (if b then None else Some (value_of i))
valid i b is = ap (λ c. if c then None else Some (value_of i)) (sym is)

none_of : (o : Option Item) → ((i : Item) → o ≡ Some i → ⊥) → None ≡ valid_value_of o
none_of None h = refl
none_of (Some i) h = absurd (h i refl)

-- bytes that encode no item
pub decoded_none : (b : List ℕ) → ((k : ℕ) → slice_index b k < 256) → ((i : Item) → IsItem b i → ⊥) → None ≡ decoded b
unfolding decoded
decoded_none b fits never =
    none_of (embedded 1 b) (λ i is. never i (((embeds_exactly 1 b (omega arith) (omega arith) fits).one i).0 is))

pub front_found : (b : List ℕ) (i : Item) (n : ℕ) → BeginsWithItem b i n → Some (i, drop n b) ≡ front_of b
front_found b i n h = sym (ap front_item ((rejects_exactly 1 b (omega arith)).front n i h.1 h.2))

pub front_cut : (b : List ℕ) → IsCut b → None ≡ front_of b
front_cut b h = sym (ap front_item ((rejects_exactly 1 b (omega arith)).cut h))

pub front_fault : (b : List ℕ) (e : Error) → HasFault b e → None ≡ front_of b
front_fault b e h = sym (ap front_item ((rejects_exactly 1 b (omega arith)).fault e h))

-- what an option holds, or else this
abbrev or : {A : Type 0} → A → Option A → A
or x None = x
or x (Some y) = y

-- an item at the front, and the sequence after it
one_more : (n : ℕ) (b : List ℕ) (x : Item × List ℕ) (read : Read Item) → Some x ≡ front_item read
    → listed (and_then (sequence_of front_read n) b read)
    ≡ after (value_of x.0 ∷ []) (listed (sequence_of front_read n x.1))
one_more n b x (Ok y) is =
    ap (λ z. after (value_of z.0 ∷ []) (listed (sequence_of front_read n z.1))) (sym (ap (or x) is))
one_more n b x (Err e) is = absurd cc

sequence_more : (n : ℕ) (b : List ℕ) (x : Item × List ℕ) → Some x ≡ front_of b
    → listed (sequence_of front_read (suc n) b) ≡ after (value_of x.0 ∷ []) (listed (sequence_of front_read n x.1))
unfolding sequence_of
sequence_more n b x is = one_more n b x (front_read b) is

none_more : (n : ℕ) (b : List ℕ) (read : Read Item) → None ≡ front_item read
    → listed (and_then (sequence_of front_read n) b read) ≡ ([], b)
none_more n b (Ok y) is = absurd cc
none_more n b (Err e) is = refl

sequence_ends : (n : ℕ) (b : List ℕ) → None ≡ front_of b → listed (sequence_of front_read n b) ≡ ([], b)
unfolding sequence_of
sequence_ends zero b is = refl
sequence_ends (suc n) b is = none_more n b (front_read b) is

sequence_zero : (b : List ℕ) → listed (sequence_of front_read 0 b) ≡ ([], b)
unfolding sequence_of
sequence_zero b = refl

-- ---- the loop over the items of a sequence

pub starts : (b : List ℕ) (n : ℕ) (vs : List Value) → vs ≡ [] → n ≡ length b
    → listed (sequence 1 b) ≡ after vs (listed (sequence_of front_read n b))
starts b n vs none all =
    ap (λ m. listed (sequence_of front_read m b)) (sym all)
    ∙ ap (λ l. after l (listed (sequence_of front_read n b))) (sym none)

-- one item more is read
pub goes_on : (n k : ℕ) (b : List ℕ) (x : Item × List ℕ) (vs more : List Value) → k < n → Some x ≡ front_of b
    → more ≡ vs ++ value_of x.0 ∷ []
    → after vs (listed (sequence_of front_read (n - k) b))
    ≡ after more (listed (sequence_of front_read (n - (k + 1)) x.1))
goes_on n k b x vs more less is added =
    let s = listed (sequence_of front_read (n - (k + 1)) x.1) in
    let left : n - k ≡ suc (n - (k + 1)) = omega arith in
    ap (λ m. after vs (listed (sequence_of front_read m b))) left
    ∙ (ap (after vs) (sequence_more (n - (k + 1)) b x is)
    ∙ (ap (λ l. (l, s.1)) (sym (append_assoc vs (value_of x.0 ∷ []) s.0)) ∙ ap (λ l. after l s) (sym added)))

-- no item is at the front
pub stops : (n : ℕ) (b : List ℕ) (vs : List Value) → None ≡ front_of b
    → after vs (listed (sequence_of front_read n b)) ≡ (vs, b)
stops n b vs is = ap (after vs) (sequence_ends n b is) ∙ ap (λ l. (l, b)) (append-nil vs)

-- the bytes have no more items than bytes
pub ends : (n : ℕ) (b : List ℕ) (vs : List Value) → n ≡ 0 → after vs (listed (sequence_of front_read n b)) ≡ (vs, b)
ends n b vs none =
    ap (λ m. after vs (listed (sequence_of front_read m b))) none
    ∙ (ap (after vs) (sequence_zero b) ∙ ap (λ l. (l, b)) (append-nil vs))

-- ---- keys that stand twice in a sequence

abbrev pub twice : Items × List ℕ → Bool
twice s = items_have_key_twice s.0

twice_in_one : (n : ℕ) (b : List ℕ) (x : Item × List ℕ) (read : Read Item) → Some x ≡ front_item read
    → twice (and_then (sequence_of front_read n) b read) ≡ (has_key_twice x.0 || twice (sequence_of front_read n x.1))
twice_in_one n b x (Ok y) is =
    ap (λ z. has_key_twice z.0 || twice (sequence_of front_read n z.1)) (sym (ap (or x) is))
twice_in_one n b x (Err e) is = absurd cc

pub twice_starts : (b : List ℕ) (n : ℕ) (old : Bool) → n ≡ length b
    → (old || twice (sequence 1 b)) ≡ (old || twice (sequence_of front_read n b))
twice_starts b n old all = ap (λ m. old || twice (sequence_of front_read m b)) (sym all)

-- one item more is read
pub twice_more : (n k : ℕ) (b : List ℕ) (x : Item × List ℕ) (old new : Bool) → k < n → Some x ≡ front_of b
    → new ≡ (old || has_key_twice x.0)
    → (old || twice (sequence_of front_read (n - k) b)) ≡ (new || twice (sequence_of front_read (n - (k + 1)) x.1))
unfolding sequence_of
twice_more n k b x old new less is flag =
    let left : n - k ≡ suc (n - (k + 1)) = omega arith in
    let more = twice (sequence_of front_read (n - (k + 1)) x.1) in
    ap (λ m. old || twice (sequence_of front_read m b)) left
    ∙ (ap (λ t. old || t) (twice_in_one (n - (k + 1)) b x (front_read b) is)
    ∙ (sym (or_assoc old (has_key_twice x.0) more) ∙ ap (λ f. f || more) (sym flag)))

twice_in_none : (n : ℕ) (b : List ℕ) (read : Read Item) → None ≡ front_item read
    → twice (and_then (sequence_of front_read n) b read) ≡ false
twice_in_none n b (Ok y) is = absurd cc
twice_in_none n b (Err e) is = refl

twice_in_rest : (n : ℕ) (b : List ℕ) → None ≡ front_of b → twice (sequence_of front_read n b) ≡ false
unfolding sequence_of
twice_in_rest zero b is = refl
twice_in_rest (suc n) b is = twice_in_none n b (front_read b) is

-- no item is at the front
pub twice_stops : (n : ℕ) (b : List ℕ) (old : Bool) → None ≡ front_of b
    → (old || twice (sequence_of front_read n b)) ≡ old
twice_stops n b old is = ap (λ t. old || t) (twice_in_rest n b is) ∙ sym (or_false old)

-- the bytes have no more items than bytes
pub twice_ends : (n : ℕ) (b : List ℕ) (old : Bool) → n ≡ 0 → (old || twice (sequence_of front_read n b)) ≡ old
unfolding sequence_of
twice_ends n b old none = ap (λ m. old || twice (sequence_of front_read m b)) none ∙ sym (or_false old)

-- ---- the end of a sequence

whole_of : (s : Items × List ℕ) (vs : List Value) (rest : List ℕ) → (vs, rest) ≡ listed s → rest ≡ []
    → twice s ≡ false → Some (spec.array (values_of vs)) ≡ array_of_all s
whole_of (is, []) vs rest e none once =
    ap (λ l. Some (spec.array (values_of l))) (ap (λ p. p.0) e)
    ∙ (ap (λ l. Some (spec.array l)) (values_of-list_of (values_of_items is))
    ∙ ap (λ b. if b then None else Some (spec.array (values_of_items is))) (sym once))
whole_of (is, first ∷ b) vs rest e none once =
    let some : rest ≡ first ∷ b = ap (λ p. p.1) e in
    absurd cc

others_of : (s : Items × List ℕ) (vs : List Value) (rest : List ℕ) → (vs, rest) ≡ listed s → (length rest == 0) ≡ false
    → None ≡ array_of_all s
others_of (is, []) vs rest e some =
    let none : (length rest == 0) ≡ true = ap (λ p. length p.1 == 0) e in
    absurd cc
others_of (is, first ∷ b) vs rest e some = refl

twice_of : (s : Items × List ℕ) → twice s ≡ true → None ≡ array_of_all s
twice_of (is, []) known = ap (λ b. if b then None else Some (spec.array (values_of_items is))) (sym known)
twice_of (is, first ∷ b) known = refl

pub whole : (b : List ℕ) (vs : List Value) (rest : List ℕ) → (vs, rest) ≡ listed (sequence 1 b)
    → rest ≡ [] → twice (sequence 1 b) ≡ false → Some (spec.array (values_of vs)) ≡ decoded_sequence b
unfolding decoded_sequence
whole b vs rest e none once = whole_of (sequence 1 b) vs rest e none once

pub others : (b : List ℕ) (vs : List Value) (rest : List ℕ) → (vs, rest) ≡ listed (sequence 1 b)
    → (length rest == 0) ≡ false → None ≡ decoded_sequence b
unfolding decoded_sequence
others b vs rest e some = others_of (sequence 1 b) vs rest e some

-- a key stands twice
pub not_once : (b : List ℕ) → twice (sequence 1 b) ≡ true → None ≡ decoded_sequence b
unfolding decoded_sequence
not_once b known = twice_of (sequence 1 b) known
