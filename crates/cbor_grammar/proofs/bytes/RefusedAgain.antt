-- If bytes are cut (`Cut`), `counted_item` returns `CutShort`; if they have a fault (`Fault`), it returns the error of
-- the fault. Its turns are those of what is whole (`cut_spent`, `fault_spent`) and one for the part that fails.
use Rattle.std.proofs.Common.{◌≡◌, ℕ, zero, suc, ◌+◌, ◌*◌, ◌<◌, List, [], ◌∷◌, ◌++◌, length, Some, None, Ok, Err, inr}
use Rattle.std.proofs.Common.{refl, sym, ap, ◌∙◌, append_assoc, arith}
use Rattle.cbor_grammar.specs.declared.width.IntegerWidth.{IntegerWidth}
use Rattle.cbor_grammar.specs.declared.error.Error.{Error}
use Rattle.cbor_grammar.specs.declared.error.Error.TheVariants as refusal
use Rattle.cbor_grammar.specs.declared.argument.Argument.{Argument}
use Rattle.cbor_grammar.specs.declared.argument.Argument.TheVariants.{Number, Indefinite}
use Rattle.cbor_grammar.specs.Item.{Item, atom, string, chunked_string, no_items, no_pairs}
use Rattle.cbor_grammar.specs.declared.head.ItemHead.TheVariants as item_head
use Rattle.cbor_grammar.specs.declared.head.ItemHead.{ItemHead}
use Rattle.cbor_grammar.specs.Head.{break_byte, HeadThen}
use Rattle.cbor_grammar.specs.declared.strings.StringKind.{StringKind}
use Rattle.cbor_grammar.specs.declared.strings.StringKind.TheVariants.{Text}
use Rattle.cbor_grammar.specs.StringKind.{major_of}
use Rattle.cbor_grammar.specs.Refused as spelled
use Rattle.cbor_grammar.specs.Refused.{SpelledParts, Next, part, part_or_break, Inside, in_tag, in_array, in_map}
use Rattle.cbor_grammar.specs.Refused.{in_open_array, at_open_key, at_open_value, InsideString, BeginsWithBreak}
use Rattle.cbor_grammar.specs.Refused.{NoBreakAt}
use Rattle.cbor_grammar.specs.Refused.{Cut, nothing, in_head, in_content, in_chunk, in_part, Fault, too_deep, bad_head}
use Rattle.cbor_grammar.specs.Refused.{bad_text, bad_chunk_head, bad_chunk_text, bad_part}
use Rattle.cbor_grammar.specs.Turns.{item_turns, parts_turns, front_turns, cut_spent, fault_spent}
use Rattle.cbor_grammar.specs.Reading.{◌>>=◌, Counted, later, go_on, ◌>>-◌, head_of, read_head, Frame, items_in}
use Rattle.cbor_grammar.specs.Reading.{pairs_in}
use Rattle.cbor_grammar.specs.Reading.{value_of, tag_of, tagged_with, opened, put, after_break, after_end, read_parts}
use Rattle.cbor_grammar.specs.Reading.{read_body, counted_item, read_item}
use Rattle.cbor_grammar.proofs.bytes.Heads.{head_again}
use Rattle.cbor_grammar.proofs.bytes.HeadRefusals.{head_cut, head_bad}
use Rattle.cbor_grammar.proofs.bytes.StringRefusals as strings
use Rattle.cbor_grammar.proofs.bytes.StringRefusals.{ContentRefusal, content_refuses, ChunkRefusal, chunks_refuse}
use Rattle.cbor_grammar.proofs.bytes.Steps.{parts_more, item_shortens}
use Rattle.cbor_grammar.proofs.bytes.FoundAgain.{kind_major, string_head, spelled_begins, no_break_at, counted_again}
use Rattle.cbor_grammar.proofs.bytes.Refusals.{break_none}

-- ---- a container that is not whole

-- parts that are still to come before the rest, in whose place one more is
abbrev Wants : ℕ → List ℕ → Frame → Type 0
Wants k rest (items_in is (Number n w)) = k < n
Wants k rest (items_in is Indefinite) = ¬ (BeginsWithBreak rest)
Wants k rest (pairs_in ps (Number n w)) = k < 2 * n
Wants k rest (pairs_in ps Indefinite) = (j : ℕ) → k ≡ 2 * j → ¬ (BeginsWithBreak rest)
Wants k rest (value_of ps key (Number n w)) = k < 2 * n + 1
Wants k rest (value_of ps key Indefinite) = (j : ℕ) → k ≡ 2 * j + 1 → ¬ (BeginsWithBreak rest)
Wants k rest (tag_of t w) = k ≡ 0
Wants k rest (tagged_with t w i) = ⊥

wants_rest : (rest : List ℕ) (f : Frame) → Wants 0 rest f → after_end f rest ≡ None
wants_rest rest (items_in is (Number zero w)) h = absurd (omega arith)
wants_rest rest (items_in is (Number (suc n) w)) h = refl
wants_rest rest (items_in is Indefinite) h = break_none rest h
wants_rest rest (pairs_in ps (Number zero w)) h = absurd (omega arith)
wants_rest rest (pairs_in ps (Number (suc n) w)) h = refl
wants_rest rest (pairs_in ps Indefinite) h = break_none rest (h 0 refl)
wants_rest rest (value_of ps key wanted) h = refl
wants_rest rest (tag_of t w) h = refl
wants_rest rest (tagged_with t w i) h = absurd h

wants_part : (k : ℕ) (b rest : List ℕ) (f : Frame) → Wants (suc k) rest f → after_break b ≡ None → after_end f b ≡ None
wants_part k b rest (items_in is (Number zero w)) h none = absurd (omega arith)
wants_part k b rest (items_in is (Number (suc n) w)) h none = refl
wants_part k b rest (items_in is Indefinite) h none = none
wants_part k b rest (pairs_in ps (Number zero w)) h none = absurd (omega arith)
wants_part k b rest (pairs_in ps (Number (suc n) w)) h none = refl
wants_part k b rest (pairs_in ps Indefinite) h none = none
wants_part k b rest (value_of ps key wanted) h none = refl
wants_part k b rest (tag_of t w) h none = refl
wants_part k b rest (tagged_with t w i) h none = absurd h

wants_put : (k : ℕ) (rest : List ℕ) (f : Frame) (i : Item) → Wants (suc k) rest f → Wants k rest (put f i)
wants_put k rest (items_in is (Number zero w)) i h = absurd (omega arith)
wants_put k rest (items_in is (Number (suc n) w)) i h = omega arith
wants_put k rest (items_in is Indefinite) i h = h
wants_put k rest (pairs_in ps (Number zero w)) i h = absurd (omega arith)
wants_put k rest (pairs_in ps (Number (suc n) w)) i h = omega arith
wants_put k rest (pairs_in ps Indefinite) i h = λ j is. h (suc j) (omega arith)
wants_put k rest (value_of ps key (Number n w)) i h = omega arith
wants_put k rest (value_of ps key Indefinite) i h = λ j is. h j (omega arith)
wants_put k rest (tag_of t w) i h = absurd (omega arith)
wants_put k rest (tagged_with t w j) i h = absurd h

module _ (level left : ℕ) (levels : level + left ≡ 129) where
  -- whole parts, and one that fails
  parts_spent : (k : ℕ) (whole rest : List ℕ) (f : Frame) (t : ℕ) (e : Error) → (spelled : SpelledParts level k whole)
      → Wants k rest f → counted_item left rest ≡ (t, Err e)
      → read_parts (counted_item left) f (whole ++ rest) ≡ (parts_turns level k whole spelled + t, Err e)
  parts_spent zero whole rest f t e spelled wants fails =
      let sum : t ≡ 0 + t = omega arith in
      rw spelled (parts_more (counted_item left) (item_shortens left) f rest (wants_rest rest f wants)
      ∙ ap (λ c. c >>- λ i. read_parts (counted_item left) (put f i.0) i.1) fails ∙ ap (λ n. (n, Err e)) sum)
  parts_spent (suc k) whole rest f t e spelled wants fails =
      let x = spelled.0 in
      let more = spelled.1 ++ rest in
      let i = spelled.2 in
      let none = wants_part k (x ++ more) rest f wants (no_break_at x more (spelled_begins level x i spelled.4)) in
      let whole_is : whole ++ rest ≡ x ++ more = ap (λ (y : List ℕ). y ++ rest) spelled.3
      ∙ append_assoc x spelled.1 rest in
      let others = parts_spent k spelled.1 rest (put f i) t e spelled.5 (wants_put k rest f i wants) fails in
      let sum : item_turns i + (parts_turns level k spelled.1 spelled.5 + t) ≡ item_turns i + parts_turns level k
      spelled.1 spelled.5 + t = omega arith in
      ap (λ y. read_parts (counted_item left) f y) whole_is
      ∙ parts_more (counted_item left) (item_shortens left) f (x ++ more) none
      ∙ ap (λ c. c >>- λ j. read_parts (counted_item left) (put f j.0) j.1)
      (counted_again level left x i more levels spelled.4)
      ∙ ap (later (item_turns i)) others ∙ ap (λ n. (n, Err e)) sum

-- what is refused after a head
after_head : (left t n : ℕ) (b r : List ℕ) (h : ItemHead) (e : Error) → read_head b ≡ Ok (h, r)
    → read_body (counted_item left) (opened h) h r ≡ (t, Err e) → 1 + t ≡ n → counted_item (suc left) b ≡ (n, Err e)
unfolding counted_item
after_head left t n b r h e head body sum =
    ap (λ q. go_on 1 q (λ h. read_body (counted_item left) (opened h.0) h.0 h.1)) head ∙ ap (later 1) body
    ∙ ap (λ k. (k, Err e)) sum

-- what is refused in a container
within : (level left k t : ℕ) (b whole rest : List ℕ) (h : ItemHead) (f : Frame) (e : Error) → level + suc left ≡ 129
    → opened h ≡ Some f → read_head b ≡ Ok (h, whole ++ rest) → (spelled : SpelledParts (level + 1) k whole)
    → Wants k rest f → counted_item left rest ≡ (t, Err e)
    → counted_item (suc left) b ≡ (1 + parts_turns (level + 1) k whole spelled + t, Err e)
within level left k t b whole rest h f e levels is head parts wants fails =
    let spent : ℕ = parts_turns (level + 1) k whole parts in
    let sum : 1 + (spent + t) ≡ 1 + spent + t = omega arith in
    after_head left (spent + t) (1 + spent + t) b (whole ++ rest) h e head
    (ap (λ o. read_body (counted_item left) o h (whole ++ rest)) is
    ∙ parts_spent (level + 1) left (omega arith) k whole rest f t e parts wants fails) sum

inside_spent : (level left t : ℕ) (next : Next) (b rest : List ℕ) (e : Error) → level + suc left ≡ 129
    → (inside : Inside level b rest next) → NoBreakAt next rest → counted_item left rest ≡ (t, Err e)
    → counted_item (suc left) b ≡ (front_turns inside + t, Err e)
unfolding head_of
inside_spent level left t next b rest e levels (in_tag n w h) no_break fails =
    within level left 0 t b [] rest (item_head.Tag n w) (tag_of n w) e levels refl
    (head_again 6 (Number n w) (item_head.Tag n w) b rest (omega arith) h refl) refl refl fails
inside_spent level left t next b rest e levels (in_array n k w whole h parts few) no_break fails =
    within level left k t b whole rest (item_head.Array (Number n w)) (items_in no_items (Number n w)) e levels refl
    (head_again 4 (Number n w) (item_head.Array (Number n w)) b (whole ++ rest) (omega arith) h refl) parts few fails
inside_spent level left t next b rest e levels (in_map n k w whole h parts few) no_break fails =
    within level left k t b whole rest (item_head.Map (Number n w)) (pairs_in no_pairs (Number n w)) e levels refl
    (head_again 5 (Number n w) (item_head.Map (Number n w)) b (whole ++ rest) (omega arith) h refl) parts few fails
inside_spent level left t next b rest e levels (in_open_array k whole opens parts) no_break fails =
    within level left k t b whole rest (item_head.Array Indefinite) (items_in no_items Indefinite) e levels refl
    (head_again 4 Indefinite (item_head.Array Indefinite) b (whole ++ rest) (omega arith) opens refl) parts
    no_break fails
inside_spent level left t next b rest e levels (at_open_key k whole opens parts) no_break fails =
    within level left (2 * k) t b whole rest (item_head.Map Indefinite) (pairs_in no_pairs Indefinite) e levels refl
    (head_again 5 Indefinite (item_head.Map Indefinite) b (whole ++ rest) (omega arith) opens refl) parts
    (λ j is. no_break) fails
inside_spent level left t next b rest e levels (at_open_value k whole opens parts) no_break fails =
    within level left (2 * k + 1) t b whole rest (item_head.Map Indefinite) (pairs_in no_pairs Indefinite) e levels refl
    (head_again 5 Indefinite (item_head.Map Indefinite) b (whole ++ rest) (omega arith) opens refl) parts
    (λ j is. absurd (omega arith)) fails

-- ---- strings

content_spent : (kind : StringKind) (left n : ℕ) (w : IntegerWidth) (b rest : List ℕ) (e : Error)
    → HeadThen (major_of kind) n w b (λ r. r ≡ rest) → ContentRefusal kind n rest e
    → counted_item (suc left) b ≡ (1, Err e)
content_spent kind left n w b rest e h refused =
    let a : Argument = Number n w in
    after_head left 0 1 b rest (item_head.String kind a) e
    (head_again (major_of kind) a (item_head.String kind a) b rest (omega (arith, kind_major kind)) h
    (string_head kind a))
    (ap (λ r. (0, r >>= λ c. Ok (atom (string kind c.0), c.1))) (content_refuses kind n w rest e refused)) refl

string_spent : (kind : StringKind) (left : ℕ) (b rest : List ℕ) (e : Error) → (inside : InsideString kind b rest)
    → ChunkRefusal kind rest e → counted_item (suc left) b ≡ (1 + length inside.0 + 1, Err e)
string_spent kind left b rest e inside refused =
    let sum : 1 + (length inside.0 + 1) ≡ 1 + length inside.0 + 1 = omega arith in
    after_head left (length inside.0 + 1) (1 + length inside.0 + 1) b inside.1 (item_head.String kind Indefinite) e
    (head_again (major_of kind) Indefinite (item_head.String kind Indefinite) b inside.1
    (omega (arith, kind_major kind)) inside.2 (string_head kind Indefinite))
    (ap (λ c. c >>- λ cs. (0, Ok (atom (chunked_string kind cs.0), cs.1)))
    (chunks_refuse (length inside.1) kind inside.0 inside.1 rest e inside.3 (omega arith) refused)) sum

-- ---- cuts and faults

-- the front of a container before what is not whole
one_more : (front spent : ℕ) (e : Error) (c : Counted Item) → c ≡ (front + (spent + 1), Err e)
    → c ≡ (front + spent + 1, Err e)
one_more front spent e c h = let sum : front + (spent + 1) ≡ front + spent + 1 = omega arith in h
    ∙ ap (λ n. (n, Err e)) sum

nothing_counted : (left : ℕ) → counted_item left [] ≡ (1, Err refusal.CutShort)
unfolding counted_item read_head
nothing_counted zero = refl
nothing_counted (suc left) = refl

-- a break in an item's place is refused, and not as truncated
break_no_cut : (left : ℕ) (rest : List ℕ) → read_item left (break_byte ∷ rest) ≡ Err refusal.CutShort → ⊥
unfolding counted_item
break_no_cut zero rest h = cc
break_no_cut (suc left) rest h =
    let head = head_bad (break_byte ∷ rest) (spelled.no_length {first = break_byte} refl (inr (omega arith))) in
    let wrong : Err refusal.Head ≡ Err refusal.CutShort =
    ap (λ q. (go_on 1 q (λ h. read_body (counted_item left) (opened h.0) h.0 h.1)).1) (sym head) ∙ h in
    cc

-- what is cut does not begin with a break
cut_no_break : (left : ℕ) (next : Next) (b : List ℕ) → read_item left b ≡ Err refusal.CutShort → NoBreakAt next b
cut_no_break left part b h = tt
cut_no_break left part_or_break b h = λ starts. break_no_cut left starts.0 (rw (← starts.1) h)

pub cut_turns : (level left : ℕ) (b : List ℕ) → level + left ≡ 129 → (c : Cut level b)
    → counted_item left b ≡ (cut_spent c + 1, Err refusal.CutShort)
unfolding counted_item
cut_turns level left b levels (nothing le) = nothing_counted left
cut_turns level zero b levels (in_head le h) = absurd (omega arith)
cut_turns level (suc left) b levels (in_head le h) = rw (head_cut b h) refl
cut_turns level zero b levels (in_content kind le h) = absurd (omega arith)
cut_turns level (suc left) b levels (in_content kind le h) =
    content_spent kind left h.0 h.1 b h.2.1 refusal.CutShort (h.2.0, h.2.1, h.2.2, refl) (strings.short_content h.2.3)
cut_turns level zero b levels (in_chunk kind rest le inside h) = absurd (omega arith)
cut_turns level (suc left) b levels (in_chunk kind rest le inside h) =
    string_spent kind left b rest refusal.CutShort inside (strings.cut_chunk h)
cut_turns level zero b levels (in_part next rest le inside c) = absurd (omega arith)
cut_turns level (suc left) b levels (in_part next rest le inside c) =
    let later = cut_turns (level + 1) left rest (omega arith) c in
    let no_break = cut_no_break left next rest (ap (λ (x : Counted Item). x.1) later) in
    one_more (front_turns inside) (cut_spent c) refusal.CutShort _
    (inside_spent level left (cut_spent c + 1) next b rest refusal.CutShort levels inside no_break later)

pub fault_turns : (level left : ℕ) (b : List ℕ) (e : Error) → level + left ≡ 129 → (f : Fault level b e)
    → counted_item left b ≡ (fault_spent f + 1, Err e)
unfolding counted_item
fault_turns level zero b e levels (too_deep deep) = refl
fault_turns level (suc left) b e levels (too_deep deep) = absurd (omega arith)
fault_turns level zero b e levels (bad_head le h) = absurd (omega arith)
fault_turns level (suc left) b e levels (bad_head le h) = rw (head_bad b h) refl
fault_turns level zero b e levels (bad_text le h) = absurd (omega arith)
fault_turns level (suc left) b e levels (bad_text le h) =
    content_spent Text left h.0 h.1 b h.2.1 refusal.Utf8 (h.2.0, h.2.1, h.2.2, refl)
    (strings.bad_content h.2.3.0 h.2.3.1 h.2.3.2 h.2.3.3 h.2.3.4)
fault_turns level zero b e levels (bad_chunk_head kind rest le inside h) = absurd (omega arith)
fault_turns level (suc left) b e levels (bad_chunk_head kind rest le inside h) =
    string_spent kind left b rest refusal.Head inside (strings.bad_chunk h)
fault_turns level zero b e levels (bad_chunk_text rest le inside h) = absurd (omega arith)
fault_turns level (suc left) b e levels (bad_chunk_text rest le inside h) =
    string_spent Text left b rest refusal.Utf8 inside (strings.bad_text h)
fault_turns level zero b e levels (bad_part next rest le inside no_break f) = absurd (omega arith)
fault_turns level (suc left) b e levels (bad_part next rest le inside no_break f) =
    one_more (front_turns inside) (fault_spent f) e _
    (inside_spent level left (fault_spent f + 1) next b rest e levels inside no_break
    (fault_turns (level + 1) left rest e (omega arith) f))
