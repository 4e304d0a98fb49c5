-- For `parse/binary.rt` of `cbor_diag`: reading as in `specs/Reading.antt`, but with a stack of open containers.
-- `resume` is the result of reading on with these containers open. `GivesIn` says that a function returned such a
-- result, in its number of turns. No public clause names these.
use Rattle.std.specs.Prelude.{◌≡◌, ℕ, zero, suc, ◌-◌, ◌≤◌, List, [], ◌∷◌, length, Option, Some, None, Result, Ok, Err}
use Rattle.cbor_grammar.specs.declared.error.Error.{Error}
use Rattle.cbor_grammar.specs.declared.error.Error.TheVariants as refusal
use Rattle.cbor_grammar.specs.Item.{Item}
use Rattle.cbor_grammar.specs.declared.head.ItemHead.TheVariants as item_head
use Rattle.cbor_grammar.specs.declared.head.ItemHead.{ItemHead}
use Rattle.cbor_grammar.specs.Reading.{Read, Counted, later, ◌>>-◌, Frame, put, after_end, closed, read_head}
use Rattle.cbor_grammar.specs.Reading.{read_parts}
use Rattle.cbor_grammar.specs.Reading.{no_level_left, counted_item}

-- Counted reading fails so in this number of turns. Where memory ran out, these are at most the turns that it takes
-- in all.
abbrev pub FailsIn : {X : Type 0} → Error → ℕ → Counted X → Type 0
FailsIn refusal.Memory n c = n ≤ c.0
FailsIn e n c = c ≡ (n, Err e)

-- A count that rose from old to new and what a function returned, seen by view, are what counted reading
-- gives; where memory ran out, the count rose no further.
abbrev pub GivesIn : {X Y : Type 0} → (X → Y × List ℕ) → ℕ → ℕ → Result X Error → Counted Y → Type 0
GivesIn view old new (Ok x) c = later old c ≡ (new, Ok (view x))
GivesIn view old new (Err e) c = FailsIn e new (later old c)

-- what needs memory: a string, a container or a tag
abbrev pub HoldsContent : ItemHead → Type 0
HoldsContent (item_head.String kind a) = Unit {0}
HoldsContent (item_head.Array a) = Unit {0}
HoldsContent (item_head.Map a) = Unit {0}
HoldsContent (item_head.Tag n w) = Unit {0}
HoldsContent _ = ⊥

-- the head of an item, with `left` levels left for it
abbrev pub read_item_head : ℕ → List ℕ → Read ItemHead
read_item_head zero b = Err (no_level_left b)
read_item_head (suc left) b = read_head b

-- ---- the containers that are open, the innermost first

-- the bytes after the innermost, if it ends here
abbrev pub after_innermost : List Frame → List ℕ → Option (List ℕ)
after_innermost [] b = None
after_innermost (f ∷ fs) b = after_end f b

-- the item that the innermost is where it ends
abbrev pub closed_innermost : List Frame → Option Item
closed_innermost [] = None
closed_innermost (f ∷ fs) = closed f

-- what becomes of a whole item: a part of the innermost, or, where none is open, the outermost item
abbrev pub put_innermost : List Frame → Item → List Frame × Option Item
put_innermost [] i = ([], Some i)
put_innermost (f ∷ fs) i = (put f i ∷ fs, None)

-- What the outermost item is, where this is the next part of the innermost container, or, where none is open, the
-- outermost item; the levels are those that are left for the outermost item.
unfoldable pub deliver : ℕ → List Frame → Counted Item → Counted Item
deliver left [] c = c
deliver left (f ∷ fs) c =
    deliver left fs (c >>- λ i. read_parts (counted_item (left - length (f ∷ fs))) (put f i.0) i.1)

-- the same, where these bytes are left
abbrev pub resume : ℕ → List Frame → List ℕ → Counted Item
resume left [] b = counted_item left b
resume left (f ∷ fs) b = deliver left fs (read_parts (counted_item (left - length (f ∷ fs))) f b)

-- the same, where this item is whole before those bytes, if one is
abbrev pub resume_with : ℕ → List Frame → Option Item → List ℕ → Counted Item
resume_with left fs None b = resume left fs b
resume_with left fs (Some i) b = deliver left fs (0, Ok (i, b))
