-- For `skip.rt` and `skip/containers.rt`: how skipping the parts of a container (`skip_parts`) goes on if it ends, or
-- if its next part is whole, is cut or has a fault. The same for the open containers (`skip_open`), where a part may
-- also open one more. Only how much is still to come matters, not what was read before.
use Rattle.std.proofs.Common.{◌≡◌, ℕ, zero, suc, ◌-◌, ◌<◌, List, [], ◌∷◌, ◌++◌, length, Some, None, Ok, Err, refl, sym}
use Rattle.std.proofs.Common.{ap, subst, ◌∙◌, append_assoc, inl, inr, arith}
use Rattle.std.specs.Prelude.{option_map}
use Rattle.std.proofs.lemmas.List.{length-append}
use Rattle.cbor_grammar.specs.declared.width.IntegerWidth.{IntegerWidth}
use Rattle.cbor_grammar.specs.declared.width.IntegerWidth.TheVariants.{Zero}
use Rattle.cbor_grammar.specs.declared.error.Error.{Error}
use Rattle.cbor_bytes.specs.declared.skip.Stop.{Stop}
use Rattle.cbor_bytes.specs.declared.skip.Stop.TheVariants as stops
use Rattle.cbor_bytes.specs.declared.skip.to_come.ToCome.{ToCome}
use Rattle.cbor_grammar.specs.declared.argument.Argument.{Argument}
use Rattle.cbor_grammar.specs.declared.argument.Argument.TheVariants.{Number, Indefinite}
use Rattle.cbor_grammar.specs.Item.{Chunk, Item, atom, string, chunked_string, no_items, no_pairs}
use Rattle.cbor_grammar.specs.declared.head.ItemHead.TheVariants as item_head
use Rattle.cbor_grammar.specs.declared.head.ItemHead.{ItemHead}
use Rattle.cbor_grammar.specs.Head.{break_byte}
use Rattle.cbor_grammar.specs.declared.strings.StringKind.{StringKind}
use Rattle.cbor_grammar.specs.WellFormed.{deepest}
use Rattle.cbor_grammar.specs.Reading.{◌>>=◌, Counted, ◌>>-◌, read_content, Frame, items_in, pairs_in, value_of, tag_of}
use Rattle.cbor_grammar.specs.Reading.{tagged_with, opened, put, after_break, after_members, after_end, closed}
use Rattle.cbor_grammar.specs.Reading.{parts_from, read_chunks}
use Rattle.cbor_grammar.specs.Reading.{counted_item, one_less}
use Rattle.cbor_bytes.specs.mirror.Skipping.{Skip, rest_of, here, Goes, StopsSo, skip_content, skip_item, any_width}
use Rattle.cbor_bytes.specs.mirror.Skipping.{skip_body, some_item, emptied, frame_of, skip_frame, skip_parts, begun}
use Rattle.cbor_bytes.specs.mirror.Skipping.{closing, skip_open, skip_chunks}
use Rattle.cbor_grammar.proofs.bytes.Heads.{cons_is}
use Rattle.cbor_grammar.proofs.bytes.Steps.{parts_more, parts_end, item_shortens, open_or}
use Rattle.cbor_grammar.proofs.bytes.Frames.{end_ways, close_ended}
use Rattle.cbor_grammar.proofs.bytes.Found.{break_ways, after_break_is}
use Rattle.cbor_bytes.proofs.skipping.Skips.{goes_here, goes_then, goes_within, stops_within, rest_made, rest_then}

-- ---- what was read makes no difference

-- neither does the width of a count
width_ends : (a : Argument) (b : List ℕ) → after_members (any_width a) b ≡ after_members a b
width_ends (Number zero w) b = refl
width_ends (Number (suc n) w) b = refl
width_ends Indefinite b = refl

width_twice : (a : Argument) → any_width (any_width a) ≡ any_width a
width_twice (Number n w) = refl
width_twice Indefinite = refl

width_less : (a : Argument) → any_width (one_less a) ≡ any_width (one_less (any_width a))
width_less (Number zero w) = refl
width_less (Number (suc n) w) = refl
width_less Indefinite = refl

-- a container ends where it ends with nothing read
emptied_ends : (f : Frame) (b : List ℕ) → after_end (emptied f) b ≡ after_end f b
emptied_ends (items_in is left) b = width_ends left b
emptied_ends (pairs_in ps left) b = width_ends left b
emptied_ends (value_of ps k left) b = refl
emptied_ends (tag_of t w) b = refl
emptied_ends (tagged_with t w i) b = refl

emptied_twice : (f : Frame) → emptied (emptied f) ≡ emptied f
emptied_twice (items_in is left) = ap (items_in no_items) (width_twice left)
emptied_twice (pairs_in ps left) = ap (pairs_in no_pairs) (width_twice left)
emptied_twice (value_of ps k left) = ap (value_of no_pairs some_item) (width_twice left)
emptied_twice (tag_of t w) = refl
emptied_twice (tagged_with t w i) = refl

-- where a part has to follow, it makes no difference which one does
emptied_put : (f : Frame) (b : List ℕ) (i : Item) → after_end f b ≡ None
    → emptied (put f i) ≡ emptied (put (emptied f) some_item)
emptied_put (items_in is left) b i none = ap (items_in no_items) (width_less left)
emptied_put (pairs_in ps left) b i none = ap (value_of no_pairs some_item) (width_less left)
emptied_put (value_of ps k left) b i none = ap (pairs_in no_pairs) (sym (width_twice left))
emptied_put (tag_of t w) b i none = refl
emptied_put (tagged_with t w j) b i none = absurd cc

alike_put : (f g : Frame) (b : List ℕ) (i : Item) → emptied f ≡ emptied g → after_end f b ≡ None → after_end g b ≡ None
    → emptied (put f i) ≡ emptied (put g i)
alike_put f g b i same none also = emptied_put f b i none ∙ ap (λ h. emptied (put h some_item)) same
    ∙ sym (emptied_put g b i also)

-- where two containers have as much to come, as much is left after them
parts_alike : (read : List ℕ → Counted Item) (n : ℕ) (f g : Frame) (b : List ℕ) → emptied f ≡ emptied g
    → rest_of (parts_from n read f b).1 ≡ rest_of (parts_from n read g b).1
unfolding parts_from
parts_alike read zero f g b same = refl
parts_alike read (suc n) f g b same =
    let ends : after_end f b ≡ after_end g b =
    sym (emptied_ends f b) ∙ ap (λ h. after_end h b) same ∙ emptied_ends g b in
    let more : Frame → Counted Item = λ h. read b >>- λ i. parts_from n read (put h i.0) i.1 in
    elim (end_ways f b) [
      | inl over ↦ elim (end_ways g b) [
        | inl also ↦
            let after : Some over.1 ≡ Some also.1 = sym over.3 ∙ ends ∙ also.3 in
            let left : over.1 ≡ also.1 = cc in
            ap (λ c. rest_of c.1) (close_ended (closed f) over.0 (after_end f b) over.1 (more f) over.2 over.3)
            ∙ ap (λ x. Ok x) left
            ∙ sym (ap (λ c. rest_of c.1) (close_ended (closed g) also.0 (after_end g b) also.1 (more g) also.2 also.3))
        | inr none ↦ absurd (let wrong : Some over.1 ≡ None = sym over.3 ∙ ends ∙ none in cc)
      ]
      | inr none ↦
          let also : after_end g b ≡ None = sym ends ∙ none in
          ap (λ c. rest_of c.1) (open_or (closed f) (after_end f b) (more f) none)
          ∙ rest_then (read b) _ (λ r. rest_of (parts_from n read (put g some_item) r).1) (λ i e.
          parts_alike read n (put f i.0) (put g some_item) i.1
          (alike_put f g b i.0 same none also ∙ emptied_put g b i.0 also ∙ sym (emptied_put g b some_item also)))
          ∙ sym (rest_then (read b) _ (λ r. rest_of (parts_from n read (put g some_item) r).1) (λ i e.
          parts_alike read n (put g i.0) (put g some_item) i.1
          (emptied_put g b i.0 also ∙ sym (emptied_put g b some_item also))))
          ∙ sym (ap (λ c. rest_of c.1) (open_or (closed g) (after_end g b) (more g) also))
    ]

frame_alike : (left : ℕ) (f g : Frame) (b : List ℕ) → emptied f ≡ emptied g → skip_frame left f b ≡ skip_frame left g b
frame_alike left f g b same = parts_alike (counted_item left) (suc (length b)) f g b same

-- ---- parts, each read with `left` levels left for it

-- a part that has to follow
frame_next : (left : ℕ) (f : Frame) (b : List ℕ) → after_end f b ≡ None
    → skip_frame left f b ≡ (skip_item left b >>= skip_frame left (put f some_item))
frame_next left f b none =
    ap (λ c. rest_of c.1) (parts_more (counted_item left) (item_shortens left) f b none)
    ∙ rest_then (counted_item left b) _ (skip_frame left (put f some_item)) (λ i e.
    frame_alike left (put f i.0) (put f some_item) i.1
    (emptied_put f b i.0 none ∙ sym (emptied_put f b some_item none)))

-- no part has to follow
frame_end : (left : ℕ) (f : Frame) (b after : List ℕ) → after_end f b ≡ Some after → skip_frame left f b ≡ Ok after
frame_end left f b after ends =
    elim (end_ways f b) [
      | inl over ↦ ap (λ c. rest_of c.1)
          (parts_end (counted_item left) (item_shortens left) f b after over.0 over.2 ends)
      | inr none ↦ absurd (let wrong : Some after ≡ None = sym ends ∙ none in cc)
    ]

-- over what a container ends with, whatever follows it
end_over : (f : Frame) (b after : List ℕ) → after_end f b ≡ Some after
    → (x : List ℕ) × (b ≡ x ++ after) × ((c : List ℕ) → after_end f (x ++ c) ≡ Some c)
end_over f b after ends = over f ends
  where
    members : (a : Argument) → after_members a b ≡ Some after
        → (x : List ℕ) × (b ≡ x ++ after) × ((c : List ℕ) → after_members a (x ++ c) ≡ Some c)
    members (Number zero w) is = ([], cc, λ c. refl)
    members (Number (suc n) w) is = absurd cc
    members Indefinite is = (break_byte ∷ [], after_break_is b after is, λ c. refl)

    over : (f : Frame) → after_end f b ≡ Some after
        → (x : List ℕ) × (b ≡ x ++ after) × ((c : List ℕ) → after_end f (x ++ c) ≡ Some c)
    over (items_in is left) e = members left e
    over (pairs_in ps left) e = members left e
    over (value_of ps k left) e = absurd cc
    over (tag_of t w) e = absurd cc
    over (tagged_with t w i) e = ([], cc, λ c. refl)

pub frame_ends : (left : ℕ) (f : Frame) (b after : List ℕ) → after_end f b ≡ Some after
    → Goes (skip_frame left f) here b after
frame_ends left f b after ends =
    let o = end_over f b after ends in
    record { over = o.0; parts = o.1; along = λ c. frame_end left f (o.0 ++ c) c (o.2 c) }

-- ---- an item after its head

pub opened_goes : (left : ℕ) (h : ItemHead) (t : ToCome) (b : List ℕ)
    → Some (frame_of t) ≡ option_map emptied (opened h) → Goes (skip_body left h) (begun left (Some t)) b b
opened_goes left h t b is = goes_here b (λ c. same h c is)
  where
    alike : (f : Frame) (c : List ℕ) → frame_of t ≡ emptied f → skip_frame left f c ≡ skip_parts left t c
    alike f c same = frame_alike left f (frame_of t) c (sym (emptied_twice f) ∙ ap emptied (sym same))

    same : (h : ItemHead) (c : List ℕ) → Some (frame_of t) ≡ option_map emptied (opened h)
        → skip_body left h c ≡ begun left (Some t) c
    same (item_head.Array a) c is = alike (items_in no_items a) c cc
    same (item_head.Map a) c is = alike (pairs_in no_pairs a) c cc
    same (item_head.Tag n w) c is = alike (tag_of n w) c cc
    same h c is = absurd cc

pub string_same : (left n : ℕ) (w : IntegerWidth) (kind : StringKind) (b : List ℕ)
    → skip_body left (item_head.String kind (Number n w)) b ≡ skip_content kind n w b
string_same left n w kind b = rest_made (read_content kind n w b) (λ c. atom (string kind c))

pub chunks_same : (left : ℕ) (kind : StringKind) (b : List ℕ)
    → skip_body left (item_head.String kind Indefinite) b ≡ skip_chunks kind b
chunks_same left kind b = at (read_chunks (length b) kind b)
  where
    at : (c : Counted (List Chunk))
        → rest_of (c >>- λ cs. (0, Ok (atom (chunked_string kind cs.0), cs.1))).1 ≡ rest_of c.1
    at (n, Ok cs) = refl
    at (n, Err e) = refl

-- ---- the next part

-- whether a break is here, by the first byte alone
break_front : (first : ℕ) (x y : List ℕ) → after_break (first ∷ y) ≡ None → after_break (first ∷ x) ≡ None
break_front first x y none =
    elim (break_ways (first ∷ x)) [
      | inl at ↦
          let is : first ≡ break_byte = (cons_is first break_byte x at.0 at.1).0 in
          let wrong : after_break (break_byte ∷ y) ≡ None = subst (λ (k : ℕ). after_break (k ∷ y) ≡ None) is none in
          absurd cc
      | inr none ↦ none
    ]

-- what does not end here does not end before more bytes, nor where the bytes are cut
members_front : (a : Argument) (x y : List ℕ) → after_members a (x ++ y) ≡ None → after_members a x ≡ None
members_front (Number zero w) x y none = absurd cc
members_front (Number (suc n) w) x y none = refl
members_front Indefinite [] y none = refl
members_front Indefinite (first ∷ x) y none = break_front first x (x ++ y) none

end_front : (f : Frame) (x y : List ℕ) → after_end f (x ++ y) ≡ None → after_end f x ≡ None
end_front (items_in is left) x y none = members_front left x y none
end_front (pairs_in ps left) x y none = members_front left x y none
end_front (value_of ps k left) x y none = refl
end_front (tag_of t w) x y none = refl
end_front (tagged_with t w i) x y none = absurd cc

members_more : (a : Argument) (first : ℕ) (x y : List ℕ) → after_members a (first ∷ x) ≡ None
    → after_members a (first ∷ y) ≡ None
members_more (Number zero w) first x y none = absurd cc
members_more (Number (suc n) w) first x y none = refl
members_more Indefinite first x y none = break_front first y x none

end_longer : (f : Frame) (x rest c : List ℕ) → length rest < length (x ++ rest) → after_end f (x ++ rest) ≡ None
    → after_end f (x ++ c) ≡ None
end_longer f [] rest c lt none = absurd (omega arith)
end_longer (items_in is left) (first ∷ x) rest c lt none = members_more left first (x ++ rest) (x ++ c) none
end_longer (pairs_in ps left) (first ∷ x) rest c lt none = members_more left first (x ++ rest) (x ++ c) none
end_longer (value_of ps k left) (first ∷ x) rest c lt none = refl
end_longer (tag_of t w) (first ∷ x) rest c lt none = refl
end_longer (tagged_with t w i) (first ∷ x) rest c lt none = absurd cc

-- what is left after a part, and after those that follow it
abbrev pub after_one : ℕ → ToCome → Skip → Skip
after_one left top r = r >>= skip_frame left (put (frame_of top) some_item)

-- a part that was skipped goes on with those that follow it
part_over : (left : ℕ) (top : ToCome) (to : List ℕ → Skip) (b rest : List ℕ) → None ≡ after_end (frame_of top) b
    → length rest < length b → Goes (skip_item left) to b rest
    → Goes (skip_parts left top) (λ c. after_one left top (to c)) b rest
part_over left top to b rest none lt goes =
    let here_none : after_end (frame_of top) (goes.over ++ rest) ≡ None =
    subst (λ (x : List ℕ). after_end (frame_of top) x ≡ None) goes.parts (sym none) in
    let longer : length rest < length (goes.over ++ rest) =
    subst (λ (x : List ℕ). length rest < length x) goes.parts lt in
    record {
      over = goes.over;
      parts = goes.parts;
      along = λ c. frame_next left (frame_of top) (goes.over ++ c)
          (end_longer (frame_of top) goes.over rest c longer here_none)
          ∙ ap (after_one left top) (goes.along c);
    }

-- an error of a part is one of its container
pub part_fails : (left : ℕ) (top : ToCome) (b : List ℕ) (stop : Stop) → None ≡ after_end (frame_of top) b
    → StopsSo (skip_item left) b stop → StopsSo (skip_parts left top) b stop
part_fails left top b stops.Cut none s = frame_next left (frame_of top) b (sym none) ∙ ap (after_one left top) s
part_fails left top b (stops.Fault e after) none s =
    let whole : b ≡ (s.before ++ s.last ∷ []) ++ s.behind = s.parts
    ∙ sym (append_assoc s.before (s.last ∷ []) s.behind) in
    let all : after_end (frame_of top) (s.before ++ s.last ∷ []) ≡ None =
    end_front (frame_of top) (s.before ++ s.last ∷ []) s.behind
    (subst (λ (x : List ℕ). after_end (frame_of top) x ≡ None) whole (sym none)) in
    record {
      before = s.before;
      last = s.last;
      behind = s.behind;
      parts = s.parts;
      count = s.count;
      cut = frame_next left (frame_of top) s.before (end_front (frame_of top) s.before (s.last ∷ []) all)
          ∙ ap (after_one left top) s.cut;
      fails = frame_next left (frame_of top) (s.before ++ s.last ∷ []) all ∙ ap (after_one left top) s.fails;
      other = s.other;
    }

-- what is to come after one part more
abbrev pub Next : ToCome → ToCome → Type 0
Next top next = frame_of next ≡ emptied (put (frame_of top) some_item)

pub next_same : (left : ℕ) (top next : ToCome) (c : List ℕ) → Next top next
    → skip_frame left (put (frame_of top) some_item) c ≡ skip_parts left next c
next_same left top next c is = frame_alike left (put (frame_of top) some_item) (frame_of next) c
    (sym (emptied_twice (put (frame_of top) some_item)) ∙ ap emptied (sym is))

-- a part that was skipped whole
pub part_whole : (left : ℕ) (top next : ToCome) (b rest : List ℕ) → None ≡ after_end (frame_of top) b → Next top next
    → length rest < length b → Goes (skip_item left) here b rest
    → Goes (skip_parts left top) (skip_parts left next) b rest
part_whole left top next b rest none is lt goes =
    goes_then (part_over left top here b rest none lt goes) (goes_here rest (λ c. next_same left top next c is))

-- ---- containers in containers

-- with one more inside
closing_append : (left : ℕ) (ts : List ToCome) (t : ToCome) (r : Skip)
    → closing left (ts ++ t ∷ []) r ≡ closing left ts (r >>= skip_parts (left - length ts) t)
closing_append left [] t r = let same : left ≡ left - 0 = omega arith in ap (λ l. r >>= skip_parts l t) same
closing_append left (u ∷ ts) t r =
    let same : left - 1 - length ts ≡ left - suc (length ts) = omega arith in
    ap (λ q. q >>= skip_parts left u) (closing_append (left - 1) ts t r
    ∙ ap (λ l. closing (left - 1) ts (r >>= skip_parts l t)) same)

closing_err : (left : ℕ) (ts : List ToCome) (e : Error) → closing left ts (Err e) ≡ Err e
closing_err left [] e = refl
closing_err left (t ∷ ts) e = ap (λ q. q >>= skip_parts left t) (closing_err (left - 1) ts e)

-- what is left after a part of the innermost container and all that is open
abbrev pub wanted : List ToCome → ToCome → Skip → Skip
wanted outer top r = closing deepest outer (after_one (deepest - length outer) top r)

pub wanted_err : (outer : List ToCome) (top : ToCome) (e : Error) → wanted outer top (Err e) ≡ Err e
wanted_err outer top e = closing_err deepest outer e

-- the innermost container ends, and nothing is open round it
pub last_ends : {f : List ℕ → Skip} {all : List ℕ} (outer : List ToCome) (top : ToCome) (b after : List ℕ)
    → Goes f (skip_open outer top) all b → outer ≡ [] → Some after ≡ after_end (frame_of top) b → Goes f here all after
last_ends outer top b after so_far none some =
    goes_then (rw none at so_far) (frame_ends (deepest - 0) (frame_of top) b after (sym some))

-- the innermost container ends in another one
pub open_ends : {f : List ℕ → Skip} {all : List ℕ} (whole outer : List ToCome) (t top : ToCome) (b after : List ℕ)
    → Goes f (skip_open whole top) all b → whole ≡ outer ++ t ∷ [] → Some after ≡ after_end (frame_of top) b
    → Goes f (skip_open outer t) all after
open_ends whole outer t top b after so_far is some =
    let ends = goes_within (closing deepest (outer ++ t ∷ []))
    (frame_ends (deepest - length (outer ++ t ∷ [])) (frame_of top) b after (sym some)) in
    goes_then (rw is at so_far) (goes_then ends (goes_here after (λ c. closing_append deepest outer t (Ok c))))

-- ---- the next part in containers

-- the same in containers that are open
pub part_goes : (outer : List ToCome) (top : ToCome) (to : List ℕ → Skip) (b rest : List ℕ)
    → None ≡ after_end (frame_of top) b → length rest < length b → Goes (skip_item (deepest - length outer)) to b rest
    → Goes (skip_open outer top) (λ c. wanted outer top (to c)) b rest
part_goes outer top to b rest none lt goes =
    goes_within (closing deepest outer) (part_over (deepest - length outer) top to b rest none lt goes)

pub part_stops : (outer : List ToCome) (top : ToCome) (b : List ℕ) (stop : Stop) → None ≡ after_end (frame_of top) b
    → StopsSo (skip_item (deepest - length outer)) b stop → StopsSo (skip_open outer top) b stop
part_stops outer top b stop none s =
    stops_within (skip_parts (deepest - length outer) top) b stop (closing deepest outer) (closing_err deepest outer)
    (part_fails (deepest - length outer) top b stop none s)

-- a part without parts, and one that opens a container
pub whole_goes : (outer : List ToCome) (top next : ToCome) (b rest : List ℕ) → None ≡ after_end (frame_of top) b
    → Next top next → length rest < length b → Goes (skip_item (deepest - length outer)) here b rest
    → Goes (skip_open outer top) (skip_open outer next) b rest
whole_goes outer top next b rest none is lt goes =
    goes_within (closing deepest outer) (part_whole (deepest - length outer) top next b rest none is lt goes)

pub opens_goes : (outer : List ToCome) (top next t : ToCome) (b rest : List ℕ) → None ≡ after_end (frame_of top) b
    → Next top next → length rest < length b
    → Goes (skip_item (deepest - length outer)) (skip_parts (deepest - length outer - 1) t) b rest
    → Goes (skip_open outer top) (skip_open (outer ++ next ∷ []) t) b rest
opens_goes outer top next t b rest none is lt goes =
    let inner : List ToCome = outer ++ next ∷ [] in
    let levels : deepest - length outer - 1 ≡ deepest - length inner = omega (arith, length-append outer (next ∷ [])) in
    let on : (r : Skip) → (r >>= skip_frame (deepest - length outer) (put (frame_of top) some_item))
    ≡ (r >>= skip_parts (deepest - length outer) next) = λ r. on_same r in
    goes_then (part_goes outer top (skip_parts (deepest - length outer - 1) t) b rest none lt goes)
    (goes_here rest (λ c. ap (closing deepest outer) (on (skip_parts (deepest - length outer - 1) t c))
    ∙ sym (closing_append deepest outer next (skip_parts (deepest - length outer - 1) t c))
    ∙ ap (λ l. closing deepest inner (skip_parts l t c)) levels))
  where
    on_same : (r : Skip) → (r >>= skip_frame (deepest - length outer) (put (frame_of top) some_item))
        ≡ (r >>= skip_parts (deepest - length outer) next)
    on_same (Ok c) = next_same (deepest - length outer) top next c is
    on_same (Err e) = refl

-- ---- one item is to come

-- nothing is open
pub first_goes : (b : List ℕ) (t : ToCome) → frame_of t ≡ emptied (tag_of 0 Zero)
    → Goes (skip_item deepest) (skip_open [] t) b b
first_goes b t is = goes_here b (λ c. first c ∙ frame_alike deepest (tag_of 0 Zero) (frame_of t) c
    (sym (emptied_twice (tag_of 0 Zero)) ∙ ap emptied (sym is)))
  where
    after : (r : Skip) → (r >>= skip_frame deepest (tagged_with 0 Zero some_item)) ≡ r
    after (Ok c) = frame_end deepest (tagged_with 0 Zero some_item) c c refl
    after (Err e) = refl

    first : (c : List ℕ) → skip_item deepest c ≡ skip_frame deepest (tag_of 0 Zero) c
    first c = sym (frame_next deepest (tag_of 0 Zero) c refl ∙ after (skip_item deepest c))
