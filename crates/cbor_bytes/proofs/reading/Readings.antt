-- Lemmas for each reader of bytes. What `read_item` returns once its head is read, and how reading a container goes on
-- from one part to the next (`parts_read`) or fails with the error of a part. The count of turns is dropped.
use Rattle.std.proofs.Common.{◌≡◌, ◌≢◌, ℕ, suc, ◌+◌, ◌-◌, ◌≤◌, List, [], Some, None, Result, Ok, Err, refl, sym, ap}
use Rattle.std.proofs.Common.{subst, ◌∙◌, arith}
use Rattle.cbor_grammar.specs.declared.width.IntegerWidth.{IntegerWidth}
use Rattle.cbor_grammar.specs.declared.width.FloatWidth.{FloatWidth}
use Rattle.cbor_grammar.specs.declared.width.FloatWidth.TheVariants as float_width
use Rattle.cbor_grammar.specs.declared.error.Error.{Error}
use Rattle.cbor_grammar.specs.declared.error.Error.TheVariants as refusal
use Rattle.cbor_grammar.specs.declared.argument.Argument.{Argument}
use Rattle.cbor_grammar.specs.declared.argument.Argument.TheVariants.{Number, Indefinite}
use Rattle.cbor_grammar.specs.declared.strings.StringContent.{StringContent}
use Rattle.cbor_grammar.specs.Item.{Chunk, string, Item, atom, Items, no_items, item, Pairs, no_pairs, pair, tagged}
use Rattle.cbor_grammar.specs.declared.head.ItemHead.TheVariants as item_head
use Rattle.cbor_grammar.specs.declared.head.ItemHead.{ItemHead}
use Rattle.cbor_grammar.specs.Reading.{Read, Fails, read_content, read_atom, Counted, ◌>>=◌, ◌>>-◌, Frame, items_in}
use Rattle.cbor_grammar.specs.Reading.{pairs_in, value_of, tag_of}
use Rattle.cbor_grammar.specs.Reading.{tagged_with, opened, joined, joined_pairs, one_less, put, after_members}
use Rattle.cbor_grammar.specs.Reading.{after_end}
use Rattle.cbor_grammar.specs.Reading.{closed, read_parts, read_body, read_head, counted_item, read_item}
use Rattle.cbor_grammar.specs.declared.strings.StringKind.{StringKind}
use Rattle.cbor_grammar.specs.mirror.StringView.{kind_of, borrowed_chunk}
use Rattle.cbor_grammar.specs.WellFormed.{levels_left, FitsFloat}
use Rattle.cbor_grammar.specs.mirror.Counting.{FailsIn}
use Rattle.cbor_grammar.specs.mirror.Lengths.{left_of}
use Rattle.cbor_grammar.proofs.bytes.Heads.{IsBytes, HeadIs, head_takes}
use Rattle.cbor_grammar.proofs.bytes.Steps.{then_first, parts_end, parts_more, item_shortens}
use Rattle.cbor_grammar.proofs.turns.ChunkLoops.{onto}
use Rattle.cbor_bytes.proofs.bytes.Remaining.{left_less}
use Rattle.std.proofs.Common.{zero}
use Rattle.cbor_grammar.specs.mirror.AtLevel.{body_read}
use Rattle.cbor_grammar.proofs.bytes.Heads.{then_ok}

-- ---- steps

-- an error that reading gives
pub fails_is : {X : Type 0} (e d : Error) (read : Result X Error) → e ≡ d → read ≡ Err d → Fails e read
fails_is refusal.Memory d read same is = tt
fails_is {X = X} e d read same is = let P : Error → Result X Error = λ x. Err x in is ∙ ap P (sym same)

-- and the other way round, if it is not that memory ran out
pub failed : {X : Type 0} (e : Error) (read : Result X Error) → e ≢ refusal.Memory → Fails e read → read ≡ Err e
failed refusal.Memory read other fails = absurd (other refl)
failed e read other fails = fails

-- an error of a step is one of all
pub fails_bind : {A B : Type 0} (e : Error) (r : Result A Error) (f : A → Result B Error) → Fails e r
    → Fails e (r >>= f)
fails_bind refusal.Memory r f h = tt
fails_bind e r f h = ap (λ x. x >>= f) h

pub fails_then : {A B : Type 0} (e : Error) (c : Counted A) (f : A × List ℕ → Counted B) → Fails e c.1
    → Fails e (c >>- f).1
fails_then refusal.Memory c f h = tt
fails_then e c f h = then_first c (0, Err e) f h

pub fails_stopped : {A : Type 0} (e : Error) (n : ℕ) (c : Counted A) → FailsIn e n c → Fails e c.1
fails_stopped refusal.Memory n c h = tt
fails_stopped {A = A} e n c h = ap (λ (d : Counted A). d.1) h

-- what follows a step
pub ok_then : {A B : Type 0} (c : Counted A) (x : A × List ℕ) (f : A × List ℕ → Counted B) → c.1 ≡ Ok x
    → (c >>- f).1 ≡ (f x).1
ok_then c x f h = then_first c (0, Ok x) f h

-- ---- heads

pub one_more : (level : ℕ) → level ≤ 128 → levels_left level ≡ suc (levels_left (level + 1))
one_more level le = omega arith

fits_so : (bits : ℕ) (w : FloatWidth) (b rest : List ℕ) → HeadIs (item_head.Float bits w) b rest → FitsFloat w bits
fits_so bits float_width.Unknown b rest h = absurd h
fits_so bits float_width.Sixteen b rest h = h.0
fits_so bits float_width.ThirtyTwo b rest h = h.0
fits_so bits float_width.SixtyFour b rest h = h.0

pub float_fits : (b rest : List ℕ) (bits : ℕ) (w : FloatWidth) → IsBytes b
    → read_head b ≡ Ok (item_head.Float bits w, rest) → FitsFloat w bits
float_fits b rest bits w fits e = fits_so bits w b rest (head_takes b rest (item_head.Float bits w) fits e).0

-- ---- the parts of a container

abbrev pub parts_read : ℕ → Frame → List ℕ → Read Item
parts_read left f b = (read_parts (counted_item left) f b).1

part_read : (left : ℕ) (f : Frame) (b rest : List ℕ) (i : Item) → after_end f b ≡ None → read_item left b ≡ Ok (i, rest)
    → parts_read left f b ≡ parts_read left (put f i) rest
part_read left f b rest i none e =
    ap (λ (c : Counted Item). c.1) (parts_more (counted_item left) (item_shortens left) f b none)
    ∙ ok_then (counted_item left b) (i, rest) (λ x. read_parts (counted_item left) (put f x.0) x.1) e

pub part_fails : (e : Error) (left : ℕ) (f : Frame) (b : List ℕ) → after_end f b ≡ None → Fails e (read_item left b)
    → Fails e (parts_read left f b)
part_fails e left f b none h =
    subst (λ (c : Counted Item). Fails e c.1) (sym (parts_more (counted_item left) (item_shortens left) f b none))
    (fails_then e (counted_item left b) (λ x. read_parts (counted_item left) (put f x.0) x.1) h)

pub parts_ended : (left : ℕ) (f : Frame) (b after : List ℕ) (i : Item) → closed f ≡ Some i → after_end f b ≡ Some after
    → parts_read left f b ≡ Ok (i, after)
parts_ended left f b after i is ends = ap (λ (c : Counted Item). c.1)
    (parts_end (counted_item left) (item_shortens left) f b after i is ends)

-- nothing is held yet
pub none_held : (len : Argument) → left_of len 0 ≡ len
none_held (Number n w) = let e : n - 0 ≡ n = omega arith in ap (λ k. Number k w) e
none_held Indefinite = refl

pub member_read : (left : ℕ) (is : Items) (len : Argument) (held : ℕ) (b rest : List ℕ) (i : Item)
    → after_members (left_of len held) b ≡ None → read_item left b ≡ Ok (i, rest)
    → parts_read left (items_in is (left_of len held)) b
    ≡ parts_read left (items_in (joined is (item i no_items)) (left_of len (held + 1))) rest
member_read left is len held b rest i none e = part_read left (items_in is (left_of len held)) b rest i none e
    ∙ ap (λ a. parts_read left (items_in (joined is (item i no_items)) a) rest) (sym (left_less len held))

pub pair_read : (left : ℕ) (ps : Pairs) (len : Argument) (held : ℕ) (b mid rest : List ℕ) (k v : Item)
    → after_members (left_of len held) b ≡ None → read_item left b ≡ Ok (k, mid) → read_item left mid ≡ Ok (v, rest)
    → parts_read left (pairs_in ps (left_of len held)) b
    ≡ parts_read left (pairs_in (joined_pairs ps (pair k v no_pairs)) (left_of len (held + 1))) rest
pair_read left ps len held b mid rest k v none key value =
    part_read left (pairs_in ps (left_of len held)) b mid k none key
    ∙ part_read left (value_of ps k (one_less (left_of len held))) mid rest v refl value
    ∙ ap (λ a. parts_read left (pairs_in (joined_pairs ps (pair k v no_pairs)) a) rest) (sym (left_less len held))

pub value_fails : (e : Error) (left : ℕ) (ps : Pairs) (len : Argument) (held : ℕ) (b mid : List ℕ)
    (k : Item) → after_members (left_of len held) b ≡ None → read_item left b ≡ Ok (k, mid)
    → Fails e (read_item left mid) → Fails e (parts_read left (pairs_in ps (left_of len held)) b)
value_fails e left ps len held b mid k none key h =
    subst (Fails e) (sym (part_read left (pairs_in ps (left_of len held)) b mid k none key))
    (part_fails e left (value_of ps k (one_less (left_of len held))) mid refl h)

pub tag_read : (left t : ℕ) (w : IntegerWidth) (b rest : List ℕ) (i : Item) → read_item left b ≡ Ok (i, rest)
    → parts_read left (tag_of t w) b ≡ Ok (tagged t w i, rest)
tag_read left t w b rest i e = part_read left (tag_of t w) b rest i refl e
    ∙ parts_ended left (tagged_with t w i) rest rest (tagged t w i) refl refl

-- ---- chunks

pub none_before : (c : Counted (List Chunk)) → onto [] c ≡ c
none_before c = go c.0 c.1
  where
    go : (n : ℕ) (r : Read (List Chunk)) → onto [] (n, r) ≡ (n, r)
    go n (Ok x) = let e : n + 0 ≡ n = omega arith in ap (λ k. (k, Ok x)) e
    go n (Err e) = refl

-- ---- strings of definite length

pub content_read : (n : ℕ) (w : IntegerWidth) (s : StringContent) (b rest : List ℕ) (kind : StringKind)
    → kind_of s ≡ kind → read_content kind n w b ≡ Ok (borrowed_chunk w s, rest)
    → (read_atom (item_head.String kind (Number n w)) b).1 ≡ Ok (atom (string (kind_of s) (borrowed_chunk w s)), rest)
content_read n w s b rest kind same e = ap (λ r. r >>= λ c. Ok (atom (string kind c.0), c.1)) e
    ∙ ap (λ k. Ok (atom (string k (borrowed_chunk w s)), rest)) (sym same)

-- ---- an item and its head

-- no item is read where no head is
pub no_item : (levels : ℕ) (b : List ℕ) (e : Error) (x : Item × List ℕ) → read_head b ≡ Err e
    → read_item levels b ≡ Ok x → ⊥
unfolding counted_item
no_item zero b e x fails is = cc
no_item (suc levels) b e x fails is =
    let t = then_ok (1, read_head b) (λ y. read_body (counted_item levels) (opened y.0) y.0 y.1) x is in
    let both : Err e ≡ Ok t.0 = sym fails ∙ t.1 in
    cc

-- an item is what is read after its head
pub item_after : (levels : ℕ) (b : List ℕ) (h : ItemHead) (rest : List ℕ) (x : Item × List ℕ)
    → read_head b ≡ Ok (h, rest) → read_item levels b ≡ Ok x → (n : ℕ) × (body_read h rest n ≡ Ok x)
unfolding counted_item
item_after zero b h rest x head is = absurd cc
item_after (suc levels) b h rest x head is = (
  levels,
  sym (ok_then (1, read_head b) (h, rest) (λ y. read_body (counted_item levels) (opened y.0) y.0 y.1) head) ∙ is,
)
