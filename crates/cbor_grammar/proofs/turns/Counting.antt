-- `deliver` and `resume`, which finish all open containers, never lower the count of turns: `resume` takes at least one
-- turn, and `deliver` adds its turns to those that were taken before. `deliver` passes an error on unchanged.
use Rattle.std.proofs.Common.{◌≡◌, ℕ, zero, suc, ◌-◌, ◌≤◌, List, [], ◌∷◌, length, Option, Some, None, Err, refl, ap}
use Rattle.std.proofs.Common.{◌∙◌, arith}
use Rattle.cbor_grammar.specs.declared.error.Error.{Error}
use Rattle.cbor_grammar.specs.Item.{Item}
use Rattle.cbor_grammar.specs.Reading.{Counted, later, ◌>>-◌, Frame, put, after_end, closed, close_or, parts_from}
use Rattle.cbor_grammar.specs.Reading.{read_parts, opened, read_body, read_head, counted_item}
use Rattle.cbor_grammar.specs.mirror.Counting.{deliver, resume}
use Rattle.cbor_grammar.proofs.bytes.Steps.{then_later, then_grows}

-- ---- what follows takes no turn back

pub deliver_grows : (left : ℕ) (fs : List Frame) (c : Counted Item) → c.0 ≤ (deliver left fs c).0
unfolding deliver
deliver_grows left [] c = omega arith
deliver_grows left (f ∷ fs) c =
    let more : Item × List ℕ → Counted Item =
    λ i. read_parts (counted_item (left - length (f ∷ fs))) (put f i.0) i.1 in
    omega (arith, then_grows c more, deliver_grows left fs (c >>- more))

-- ---- each item and each part of a container takes a turn

item_counts : (left : ℕ) (b : List ℕ) → 1 ≤ (counted_item left b).0
unfolding counted_item
item_counts zero b = omega arith
item_counts (suc left) b = then_grows (1, read_head b) (λ h. read_body (counted_item left) (opened h.0) h.0 h.1)

close_counts : (o : Option Item) (e : Option (List ℕ)) (more : Counted Item) → 1 ≤ more.0 → 1 ≤ (close_or o e more).0
close_counts (Some i) (Some after) more h = omega arith
close_counts (Some i) None more h = h
close_counts None e more h = h

parts_count : (left : ℕ) (f : Frame) (b : List ℕ) → 1 ≤ (read_parts (counted_item left) f b).0
unfolding parts_from
parts_count left f b =
    let read : List ℕ → Counted Item = counted_item left in
    let more : Item × List ℕ → Counted Item = λ i. parts_from (length b) read (put f i.0) i.1 in
    close_counts (closed f) (after_end f b) (read b >>- more)
    (omega (arith, item_counts left b, then_grows (read b) more))

pub resume_counts : (left : ℕ) (fs : List Frame) (b : List ℕ) → 1 ≤ (resume left fs b).0
resume_counts left [] b = item_counts left b
resume_counts left (f ∷ fs) b =
    let levels : ℕ = left - length (f ∷ fs) in
    omega (arith, parts_count levels f b, deliver_grows left fs (read_parts (counted_item levels) f b))

-- ---- one turn

pub deliver_later : (left : ℕ) (fs : List Frame) (k : ℕ) (c : Counted Item)
    → deliver left fs (later k c) ≡ later k (deliver left fs c)
unfolding deliver
deliver_later left [] k c = refl
deliver_later left (f ∷ fs) k c =
    let more : Item × List ℕ → Counted Item =
    λ i. read_parts (counted_item (left - length (f ∷ fs))) (put f i.0) i.1 in
    ap (deliver left fs) (then_later k c more) ∙ deliver_later left fs k (c >>- more)

pub deliver_err : (left : ℕ) (fs : List Frame) (n : ℕ) (e : Error) → deliver left fs (n, Err e) ≡ (n, Err e)
unfolding deliver
deliver_err left [] n e = refl
deliver_err left (f ∷ fs) n e = deliver_err left fs n e
