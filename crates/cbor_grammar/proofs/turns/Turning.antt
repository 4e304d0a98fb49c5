-- For `turn` in `parse/binary.rt` of `cbor_diag`: a turn closes the innermost open container, opens one after its head,
-- or reads an item that contains no item. It changes neither what the whole reading gives (`resume`) nor how many turns
-- that takes in all. If a head or such an item fails, or memory runs out, the whole reading fails with the same error
-- (`FailsIn`).
use Rattle.std.proofs.Common.{◌≡◌, ℕ, zero, suc, ◌+◌, ◌-◌, ◌<◌, List, [], ◌∷◌, length, Option, Some, None, Ok, Err}
use Rattle.std.proofs.Common.{refl, sym, ap, subst, ◌∙◌, arith}
use Rattle.std.specs.Prelude.{IsSome, drop}
use Rattle.cbor_grammar.specs.declared.error.Error.{Error}
use Rattle.cbor_grammar.specs.declared.error.Error.TheVariants as refusal
use Rattle.cbor_grammar.specs.Item.{Item}
use Rattle.cbor_grammar.specs.declared.head.ItemHead.TheVariants as item_head
use Rattle.cbor_grammar.specs.declared.head.ItemHead.{ItemHead}
use Rattle.cbor_grammar.specs.Answer.{MayWantMemory}
use Rattle.cbor_grammar.specs.Reading.{Fails, Counted, later, go_on, Frame, put, read_parts, opened, read_head}
use Rattle.cbor_grammar.specs.Reading.{read_atom, read_body, no_level_left, counted_item}
use Rattle.cbor_grammar.specs.mirror.Counting.{FailsIn, HoldsContent, read_item_head, after_innermost, closed_innermost}
use Rattle.cbor_grammar.specs.mirror.Counting.{put_innermost, deliver, resume, resume_with}
use Rattle.cbor_grammar.proofs.bytes.Heads.{IsBytes}
use Rattle.cbor_grammar.proofs.bytes.Outcomes.{memory_opens}
use Rattle.cbor_grammar.proofs.bytes.Steps.{later_later, later_none, parts_end, parts_more, item_shortens}
use Rattle.cbor_grammar.proofs.turns.Counting.{deliver_later, deliver_err, deliver_grows, resume_counts}
use Rattle.cbor_grammar.proofs.turns.ChunkLoops.{stops_go, stops_with, stops_later}

-- ---- a container that ends

pub closes : (left : ℕ) (fs gs : List Frame) (b after : List ℕ) (i : Item) → Some after ≡ after_innermost fs b
    → closed_innermost fs ≡ Some i → gs ≡ drop 1 fs → resume left fs b ≡ later 1 (deliver left gs (0, Ok (i, after)))
closes left [] gs b after i ends is outer = absurd cc
closes left (f ∷ fs) gs b after i ends is outer =
    let levels : ℕ = left - length (f ∷ fs) in
    ap (deliver left fs) (parts_end (counted_item levels) (item_shortens levels) f b after i is (sym ends))
    ∙ deliver_later left fs 1 (0, Ok (i, after)) ∙ ap (λ hs. later 1 (deliver left hs (0, Ok (i, after)))) (sym outer)

-- a turn in which memory ran out
pub turn_wants : (left t : ℕ) (fs : List Frame) (b : List ℕ)
    → FailsIn refusal.Memory (t + 1) (later t (resume left fs b))
turn_wants left t fs b = omega (arith, resume_counts left fs b)

-- ---- an item that is whole

pub put_part : (left : ℕ) (fs gs : List Frame) (i : Item) (b : List ℕ) → (gs, None) ≡ put_innermost fs i
    → resume_with left fs (Some i) b ≡ resume left gs b
unfolding deliver
put_part left [] gs i b is = absurd (let wrong = ap (λ (x : List Frame × Option Item). x.1) is in cc)
put_part left (f ∷ fs) gs i b is =
    ap (deliver left fs) (later_none (read_parts (counted_item (left - length (f ∷ fs))) (put f i) b))
    ∙ ap (λ (x : List Frame × Option Item). resume left x.0 b) (sym is)

pub put_len : (fs gs : List Frame) (i : Item) → (gs, None) ≡ put_innermost fs i
    → (length gs ≡ length fs) × (0 < length fs)
put_len [] gs i is = absurd (let wrong = ap (λ (x : List Frame × Option Item). x.1) is in cc)
put_len (f ∷ fs) gs i is = (ap (λ (x : List Frame × Option Item). length x.0) is, omega arith)

pub put_whole : (left t : ℕ) (fs gs : List Frame) (i j : Item) (b : List ℕ) → (gs, Some j) ≡ put_innermost fs i
    → later t (resume_with left fs (Some i) b) ≡ (t, Ok (j, b))
unfolding deliver
put_whole left t [] gs i j b is =
    let parts = ap (λ (x : List Frame × Option Item). x.1) is in
    let same : i ≡ j = cc in
    let sum : t + 0 ≡ t = omega arith in
    ap (λ x. (t + 0, Ok (x, b))) same ∙ ap (λ n. (n, Ok (j, b))) sum
put_whole left t (f ∷ fs) gs i j b is = absurd (let wrong = ap (λ (x : List Frame × Option Item). x.1) is in cc)

-- ---- a head that has to follow

pub wants : (left n : ℕ) (fs : List Frame) (b : List ℕ) → n ≡ left - length fs → None ≡ after_innermost fs b
    → resume left fs b ≡ deliver left fs (counted_item n b)
unfolding deliver
wants left n [] b levels none = let e : left ≡ n = omega arith in ap (λ k. counted_item k b) e
wants left n (f ∷ fs) b levels none =
    let at : ℕ = left - length (f ∷ fs) in
    ap (deliver left fs) (parts_more (counted_item at) (item_shortens at) f b (sym none))
    ∙ ap (λ k. deliver left (f ∷ fs) (counted_item k b)) (sym levels)

too_deep : (e : Error) (b : List ℕ) → Fails e (read_item_head 0 b) → FailsIn e 1 (counted_item 0 b)
unfolding counted_item
too_deep refusal.Memory b h = omega arith
too_deep e b h = let same : no_level_left b ≡ e = cc in ap (λ d. (1, Err d)) same

head_stops : (e : Error) (left : ℕ) (b : List ℕ) → Fails e (read_item_head left b) → FailsIn e 1 (counted_item left b)
unfolding counted_item
head_stops e zero b h = too_deep e b h
head_stops e (suc left) b h = stops_go e 1 (read_head b) (λ x. read_body (counted_item left) (opened x.0) x.0 x.1) h

pub wanted_stops : (e : Error) (left t n : ℕ) (fs : List Frame) (b : List ℕ) → n ≡ left - length fs
    → None ≡ after_innermost fs b → Fails e (read_item_head n b) → FailsIn e (t + 1) (later t (resume left fs b))
wanted_stops e left t n fs b levels none h =
    let err = λ (d : Error). deliver_err left fs 1 d in
    let all = stops_with e 1 (counted_item n b) (deliver left fs) err (deliver_grows left fs) (head_stops e n b h) in
    rw (wants left n fs b levels none) (stops_later e t 1 (deliver left fs (counted_item n b)) all)

-- the head was there, and so was a level for it
pub head_opens : (left : ℕ) (b : List ℕ) (h : ItemHead) (rest : List ℕ) → read_item_head left b ≡ Ok (h, rest)
    → (l : ℕ) × (left ≡ suc l) × (read_head b ≡ Ok (h, rest))
    × (counted_item left b ≡ later 1 (read_body (counted_item l) (opened h) h rest))
unfolding counted_item
head_opens zero b h rest e = absurd cc
head_opens (suc left) b h rest e = (
  left,
  refl,
  e,
  ap (λ r. go_on 1 r (λ x. read_body (counted_item left) (opened x.0) x.0 x.1)) e,
)

pub wanted_opens : (left : ℕ) (b : List ℕ) (h : ItemHead) (rest : List ℕ) → IsBytes b
    → read_item_head left b ≡ Ok (h, rest) → HoldsContent h → MayWantMemory b
wanted_opens left b h rest fits e holds = memory_opens b rest h fits (head_opens left b h rest e).2 holds

pub opened_holds : (h : ItemHead) (f : Frame) → opened h ≡ Some f → HoldsContent h
opened_holds (item_head.Array a) f e = tt
opened_holds (item_head.Map a) f e = tt
opened_holds (item_head.Tag n w) f e = tt
opened_holds h f e = absurd cc

pub some_holds : (h : ItemHead) → IsSome (opened h) → HoldsContent h
some_holds (item_head.Array a) e = tt
some_holds (item_head.Map a) e = tt
some_holds (item_head.Tag n w) e = tt
some_holds h e = absurd cc

-- ---- a container that is opened

pub opens : (left t n : ℕ) (fs : List Frame) (b : List ℕ) (h : ItemHead) (g : Frame) (rest : List ℕ)
    → n ≡ left - length fs → None ≡ after_innermost fs b → read_item_head n b ≡ Ok (h, rest) → opened h ≡ Some g
    → later t (resume left fs b) ≡ later (t + 1) (resume left (g ∷ fs) rest)
opens left t n fs b h g rest levels none e is =
    let o = head_opens n b h rest e in
    let l : o.0 ≡ left - length (g ∷ fs) = omega (arith, o.1) in
    let read : counted_item n b ≡ later 1 (read_parts (counted_item (left - length (g ∷ fs))) g rest) = o.3
    ∙ ap (λ x. later 1 (read_body (counted_item o.0) x h rest)) is
    ∙ ap (λ k. later 1 (read_parts (counted_item k) g rest)) l in
    ap (later t) (wants left n fs b levels none ∙ ap (deliver left fs) read ∙ deliver_later left fs 1 _)
    ∙ later_later t 1 _

-- ---- an item without parts

atom_read : (left t n : ℕ) (fs : List Frame) (b : List ℕ) (h : ItemHead) (rest : List ℕ) → n ≡ left - length fs
    → None ≡ after_innermost fs b → read_item_head n b ≡ Ok (h, rest) → opened h ≡ None
    → later t (resume left fs b) ≡ deliver left fs (later (t + 1) (read_atom h rest))
atom_read left t n fs b h rest levels none e is =
    let o = head_opens n b h rest e in
    let read : counted_item n b ≡ later 1 (read_atom h rest) = o.3
    ∙ ap (λ x. later 1 (read_body (counted_item o.0) x h rest)) is in
    ap (later t) (wants left n fs b levels none ∙ ap (deliver left fs) read)
    ∙ sym (deliver_later left fs t (later 1 (read_atom h rest))) ∙ ap (deliver left fs) (later_later t 1 _)

pub atom_stops : (error : Error) (left t n m : ℕ) (fs : List Frame) (b : List ℕ) (h : ItemHead) (rest : List ℕ)
    → n ≡ left - length fs → None ≡ after_innermost fs b → read_item_head n b ≡ Ok (h, rest) → opened h ≡ None
    → FailsIn error m (later (t + 1) (read_atom h rest)) → FailsIn error m (later t (resume left fs b))
atom_stops error left t n m fs b h rest levels none e is stops =
    let read : Counted Item = later (t + 1) (read_atom h rest) in
    let err = λ (d : Error). deliver_err left fs m d in
    let all = stops_with error m read (deliver left fs) err (deliver_grows left fs) stops in
    subst (FailsIn error m) (sym (atom_read left t n fs b h rest levels none e is)) all

pub atom_whole : (left t n m : ℕ) (fs : List Frame) (b : List ℕ) (h : ItemHead) (rest : List ℕ) (i : Item)
    (after : List ℕ) → n ≡ left - length fs → None ≡ after_innermost fs b → read_item_head n b ≡ Ok (h, rest)
    → opened h ≡ None → later (t + 1) (read_atom h rest) ≡ (m, Ok (i, after))
    → later t (resume left fs b) ≡ later m (deliver left fs (0, Ok (i, after)))
atom_whole left t n m fs b h rest i after levels none e is whole =
    let k : m ≡ m + 0 = omega arith in
    atom_read left t n fs b h rest levels none e is
    ∙ ap (deliver left fs) (whole ∙ ap (λ j. (j, Ok (i, after))) k) ∙ deliver_later left fs m (0, Ok (i, after))
