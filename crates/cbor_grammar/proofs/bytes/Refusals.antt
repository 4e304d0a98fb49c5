-- If `read_item` returns an error, either the bytes are cut (`Cut`) and the error is `CutShort`, or the bytes have this
-- error as a fault (`Fault`). `RefusedAgain` shows the converse.
use Rattle.std.proofs.Common.{◌≡◌, ℕ, zero, suc, ◌+◌, ◌*◌, ◌≤◌, List, [], ◌∷◌, ◌++◌, Option, Some, None, Ok, Err}
use Rattle.std.proofs.Common.{length, inl, inr, refl, sym, ap, subst, ◌∙◌, append_assoc, append-nil, arith}
use Rattle.cbor_grammar.specs.declared.width.IntegerWidth.{IntegerWidth}
use Rattle.cbor_grammar.specs.declared.error.Error.{Error}
use Rattle.cbor_grammar.specs.declared.error.Error.TheVariants as refusal
use Rattle.cbor_grammar.specs.declared.argument.Argument.{Argument}
use Rattle.cbor_grammar.specs.declared.argument.Argument.TheVariants.{Number, Indefinite}
use Rattle.cbor_grammar.specs.Item.{Item, Items, no_items, item, Pairs, no_pairs, pair, atom, string, chunked_string}
use Rattle.cbor_grammar.specs.Item.{item_count, pair_count}
use Rattle.cbor_grammar.specs.declared.head.ItemHead.TheVariants as item_head
use Rattle.cbor_grammar.specs.declared.head.ItemHead.{ItemHead}
use Rattle.cbor_grammar.specs.Head.{opening, break_byte, HeadThen}
use Rattle.cbor_grammar.specs.Bytes.{any, Spells, SpellsItems, SpellsPairs}
use Rattle.cbor_grammar.specs.WellFormed.{deepest}
use Rattle.cbor_grammar.specs.declared.strings.StringKind.{StringKind}
use Rattle.cbor_grammar.specs.declared.strings.StringKind.TheVariants.{Text}
use Rattle.cbor_grammar.specs.StringKind.{major_of}
use Rattle.cbor_grammar.specs.Refused as spelled
use Rattle.cbor_grammar.specs.Refused.{SpelledParts, Next, part, part_or_break, Inside, in_tag, in_array, in_map}
use Rattle.cbor_grammar.specs.Refused.{in_open_array, at_open_key, at_open_value, InsideString, Cut, nothing, in_head}
use Rattle.cbor_grammar.specs.Refused.{in_content, in_chunk, in_part, BeginsWithBreak, NoBreakAt, Fault, too_deep}
use Rattle.cbor_grammar.specs.Refused.{bad_chunk_head, bad_chunk_text, bad_part}
use Rattle.cbor_grammar.specs.Reading.{Counted, read_head, read_content, read_chunks, read_atom, Frame, items_in}
use Rattle.cbor_grammar.specs.Reading.{pairs_in}
use Rattle.cbor_grammar.specs.Reading.{value_of, tag_of, tagged_with, opened, after_break, after_end, read_body}
use Rattle.cbor_grammar.specs.Reading.{no_level_left, counted_item, read_item}
use Rattle.cbor_grammar.proofs.bytes.Heads.{IsBytes, bind_err, then_err, ArgumentThen, HeadIs, head_takes}
use Rattle.cbor_grammar.proofs.bytes.HeadRefusals.{HeadRefusal, no_head, short_head, bad_head, head_refused}
use Rattle.cbor_grammar.proofs.bytes.StringRefusals.{ContentRefusal, short_content, bad_content, content_refused}
use Rattle.cbor_grammar.proofs.bytes.StringRefusals.{ChunkRefusal, cut_chunk, bad_chunk, bad_text, ChunksStop}
use Rattle.cbor_grammar.proofs.bytes.StringRefusals.{chunks_stop}
use Rattle.cbor_grammar.proofs.bytes.Steps.{Shortens, item_shortens}
use Rattle.cbor_grammar.proofs.bytes.Frames.{Finds, Held, parts_halt}
use Rattle.cbor_grammar.proofs.bytes.Found.{break_ways, OpenedBy, opened_by, opened_held, item_takes}

pub item_nothing : (left : ℕ) → read_item left [] ≡ Err refusal.CutShort
unfolding counted_item read_head
item_nothing zero = refl
item_nothing (suc left) = refl

-- ---- what is refused

pub data Refusal : ℕ → List ℕ → Error → Type 0 where
  is_cut : {level : ℕ} {b : List ℕ} → Cut level b → Refusal level b refusal.CutShort
  is_fault : {level : ℕ} {b : List ℕ} {e : Error} → Fault level b e → Refusal level b e

head_refusal : (level : ℕ) (b : List ℕ) (e : Error) → level ≤ deepest → HeadRefusal b e → Refusal level b e
head_refusal level b e le no_head = is_cut (nothing (omega arith))
head_refusal level b e le (short_head h) = is_cut (in_head le h)
head_refusal level b e le (bad_head h) = is_fault (spelled.bad_head le h)

content_refusal : (kind : StringKind) (level n : ℕ) (w : IntegerWidth) (b rest : List ℕ) (e : Error) → level ≤ deepest
    → HeadThen (major_of kind) n w b (λ r. r ≡ rest) → ContentRefusal kind n rest e → Refusal level b e
content_refusal kind level n w b rest e le h (short_content short) =
    is_cut (in_content kind le (n, w, (h.0, h.1, h.2, rw h.3 short)))
content_refusal Text level n w b rest e le h (bad_content text after parts len no_text) =
    is_fault (spelled.bad_text le (n, w, (h.0, h.1, h.2, (text, after, h.3 ∙ parts, len, no_text))))

chunk_refusal : (kind : StringKind) (level : ℕ) (b rest : List ℕ) (e : Error) → level ≤ deepest
    → InsideString kind b rest → ChunkRefusal kind rest e → Refusal level b e
chunk_refusal kind level b rest e le inside (cut_chunk h) = is_cut (in_chunk kind rest le inside h)
chunk_refusal kind level b rest e le inside (bad_chunk h) = is_fault (bad_chunk_head kind rest le inside h)
chunk_refusal Text level b rest e le inside (bad_text h) = is_fault (bad_chunk_text rest le inside h)

chunks_refusal : (kind : StringKind) (level : ℕ) (b rest : List ℕ) (e : Error) → level ≤ deepest
    → b ≡ opening (major_of kind) ∷ rest → ChunksStop kind rest e → Refusal level b e
chunks_refusal kind level b rest e le opens s =
    chunk_refusal kind level b s.rest e le (s.chunks, rest, opens, s.spelled) s.refused

part_refusal : (next : Next) (level : ℕ) (b rest : List ℕ) (e : Error) → level ≤ deepest → Inside level b rest next
    → NoBreakAt next rest → Refusal (level + 1) rest e → Refusal level b e
part_refusal next level b rest e le inside no_break (is_cut c) = is_cut (in_part next rest le inside c)
part_refusal next level b rest e le inside no_break (is_fault f) = is_fault (bad_part next rest le inside no_break f)

-- ---- containers

pub no_break_from : (b : List ℕ) → after_break b ≡ None → ¬ (BeginsWithBreak b)
no_break_from b e starts = let f : after_break (break_byte ∷ starts.0) ≡ None = rw starts.1 at e in absurd cc

pub break_none : (b : List ℕ) → ¬ (BeginsWithBreak b) → after_break b ≡ None
break_none b other =
    elim (break_ways b) [
      | inl starts ↦ absurd (other (starts.0, starts.1))
      | inr none ↦ none
    ]

-- members as parts, and keys and values in turn
parts_of_items : (level : ℕ) (is : Items) (b : List ℕ) → SpellsItems any level b is []
    → SpelledParts level (item_count is) b
parts_of_items level no_items b h = h
parts_of_items level (item i is) b h = (h.0, h.1, i, h.2, h.3, parts_of_items level is h.1 h.4)

parts_of_pairs : (level : ℕ) (ps : Pairs) (b : List ℕ) → SpellsPairs any level b ps []
    → SpelledParts level (2 * pair_count ps) b
parts_of_pairs level no_pairs b h = h
parts_of_pairs level (pair k v ps) b h =
    let two : suc (suc (2 * pair_count ps)) ≡ 2 * suc (pair_count ps) = omega arith in
    subst (λ (n : ℕ). SpelledParts level n b) two
    (h.0, h.1 ++ h.2, k, h.3, h.4, (h.1, h.2, v, refl, h.5, parts_of_pairs level ps h.2 h.6))

-- with one part more
parts_snoc : (level n : ℕ) (b y : List ℕ) (i : Item) → SpelledParts level n b → Spells any level y i
    → SpelledParts level (n + 1) (b ++ y)
parts_snoc level zero b y i h s =
    (y, [], i, ap (λ (x : List ℕ). x ++ y) h ∙ sym (append-nil y), s, refl)
parts_snoc level (suc n) b y i h s =
    let sum : suc (n + 1) ≡ suc n + 1 = omega arith in
    subst (λ (k : ℕ). SpelledParts level k (b ++ y)) sum (
      h.0,
      h.1 ++ y,
      h.2,
      ap (λ (x : List ℕ). x ++ y) h.3 ∙ append_assoc h.0 h.1 y,
      h.4,
      parts_snoc level n h.1 y i h.5 s,
    )

-- where an open container halts, it is not whole, and something has to follow
stops : (level : ℕ) (f g : Frame) (b r whole rest : List ℕ) → OpenedBy f b r → r ≡ whole ++ rest
    → Held (level + 1) f g whole → after_end g rest ≡ None
    → (next : Next) × Inside level b rest next × NoBreakAt next rest
stops level (items_in js a) (items_in is (Number zero w)) b r whole rest head parts held none = absurd cc
stops level (items_in js a) (items_in is (Number (suc m) w)) b r whole rest head parts held none =
    let h = subst (λ (x : Argument). ArgumentThen 4 x b r) held.0 head in (
      part,
      in_array (item_count is + suc m) (item_count is) w whole (h.0, h.1, h.2, h.3 ∙ parts)
          (parts_of_items (level + 1) is whole held.1) (omega arith),
      tt,
    )
stops level (items_in js a) (items_in is Indefinite) b r whole rest head parts held none =
    let h : b ≡ opening 4 ∷ r = subst (λ (x : Argument). ArgumentThen 4 x b r) held.0 head in (
      part_or_break,
      in_open_array (item_count is) whole (h ∙ ap (λ (x : List ℕ). opening 4 ∷ x) parts)
          (parts_of_items (level + 1) is whole held.1),
      no_break_from rest none,
    )
stops level (pairs_in qs a) (pairs_in ps (Number zero w)) b r whole rest head parts held none = absurd cc
stops level (pairs_in qs a) (pairs_in ps (Number (suc m) w)) b r whole rest head parts held none =
    let h = subst (λ (x : Argument). ArgumentThen 5 x b r) held.0 head in (
      part,
      in_map (pair_count ps + suc m) (2 * pair_count ps) w whole (h.0, h.1, h.2, h.3 ∙ parts)
          (parts_of_pairs (level + 1) ps whole held.1) (omega arith),
      tt,
    )
stops level (pairs_in qs a) (pairs_in ps Indefinite) b r whole rest head parts held none =
    let h : b ≡ opening 5 ∷ r = subst (λ (x : Argument). ArgumentThen 5 x b r) held.0 head in (
      part_or_break,
      at_open_key (pair_count ps) whole (h ∙ ap (λ (x : List ℕ). opening 5 ∷ x) parts)
          (parts_of_pairs (level + 1) ps whole held.1),
      no_break_from rest none,
    )
stops level (pairs_in qs a) (value_of ps k (Number m w)) b r whole rest head parts held none =
    let h = subst (λ (x : Argument). ArgumentThen 5 x b r) held.0 head in
    let keyed = parts_snoc (level + 1) (2 * pair_count ps) held.1 held.2 k
    (parts_of_pairs (level + 1) ps held.1 held.4) held.5 in (
      part,
      in_map (suc (pair_count ps) + m) (2 * pair_count ps + 1) w whole (h.0, h.1, h.2, h.3 ∙ parts)
          (rw held.3 keyed) (omega arith),
      tt,
    )
stops level (pairs_in qs a) (value_of ps k Indefinite) b r whole rest head parts held none =
    let h : b ≡ opening 5 ∷ r = subst (λ (x : Argument). ArgumentThen 5 x b r) held.0 head in
    let keyed = parts_snoc (level + 1) (2 * pair_count ps) held.1 held.2 k
    (parts_of_pairs (level + 1) ps held.1 held.4) held.5 in (
      part,
      at_open_value (pair_count ps) whole (h ∙ ap (λ (x : List ℕ). opening 5 ∷ x) parts) (rw held.3 keyed),
      tt,
    )
stops level (tag_of t w) (tag_of u v) b r whole rest head parts held none =
    let is : r ≡ rest = parts ∙ ap (λ (x : List ℕ). x ++ rest) held.2 in
    (part, in_tag t w (head.0, head.1, head.2, head.3 ∙ is), tt)
stops level (tag_of t w) (tagged_with u v i) b r whole rest head parts held none = absurd cc
stops level f g b r whole rest head parts held none = absurd held

-- ---- an item after its head

atom_refused : (level : ℕ) (h : ItemHead) (b rest : List ℕ) (e : Error) → opened h ≡ None → level ≤ deepest
    → HeadIs h b rest → IsBytes rest → (read_atom h rest).1 ≡ Err e → Refusal level b e
atom_refused level (item_head.String kind (Number n w)) b rest e none le is fits h =
    elim (bind_err (read_content kind n w rest) (λ c. Ok (atom (string kind c.0), c.1)) e h) [
      | inl refused ↦ content_refusal kind level n w b rest e le is (content_refused kind n w rest e refused)
      | inr made ↦ absurd cc
    ]
atom_refused level (item_head.String kind Indefinite) b rest e none le is fits h =
    elim (then_err (read_chunks (length rest) kind rest) (λ cs. (0, Ok (atom (chunked_string kind cs.0), cs.1))) e h) [
      | inl refused ↦ chunks_refusal kind level b rest e le is
          (chunks_stop (length rest) kind rest e fits (omega arith) refused)
      | inr made ↦ absurd cc
    ]
atom_refused level (item_head.Array a) b rest e none le is fits h = absurd cc
atom_refused level (item_head.Map a) b rest e none le is fits h = absurd cc
atom_refused level (item_head.Tag n w) b rest e none le is fits h = absurd cc
atom_refused level h b rest e none le is fits refused = absurd cc

body_refused : (level : ℕ) (read : List ℕ → Counted Item) (finds : Finds (level + 1) read) (short : Shortens read)
    (later : (b : List ℕ) (e : Error) → IsBytes b → (read b).1 ≡ Err e → Refusal (level + 1) b e) (o : Option Frame)
    (h : ItemHead) (b r : List ℕ) (e : Error) → opened h ≡ o → level ≤ deepest → HeadIs h b r → IsBytes r
    → (read_body read o h r).1 ≡ Err e → Refusal level b e
body_refused level read finds short later None h b r e is le head fits refused =
    atom_refused level h b r e is le head fits refused
body_refused level read finds short later (Some f) h b r e is le head fits refused =
    let s = parts_halt (level + 1) read finds short (suc (length r)) f f r [] r (Err e) (omega arith) refl
    (opened_held (level + 1) h f is) fits refused in
    let inside = stops level f s.frame b r s.whole s.rest (opened_by h f b r is head) s.parts s.held s.ended.0 in
    part_refusal inside.0 level b s.rest e le inside.1 inside.2 (later s.rest e s.fits s.ended.1)

deep_refused : (level : ℕ) (b : List ℕ) → level ≡ deepest + 1 → Refusal level b (no_level_left b)
deep_refused level [] deep = is_cut (nothing (omega arith))
deep_refused level (first ∷ b) deep = is_fault (too_deep deep)

-- What reading refuses is cut, or has that fault.
pub refused : (left level : ℕ) (b : List ℕ) (e : Error) → level + left ≡ 129 → IsBytes b → read_item left b ≡ Err e
    → Refusal level b e
unfolding counted_item
refused zero level b e levels fits h =
    let is : no_level_left b ≡ e = cc in
    subst (λ (d : Error). Refusal level b d) is (deep_refused level b (omega arith))
refused (suc left) level b e levels fits h =
    let le : level ≤ deepest = omega arith in
    let next : (level + 1) + left ≡ 129 = omega arith in
    elim (then_err (1, read_head b) (λ h. read_body (counted_item left) (opened h.0) h.0 h.1) e h) [
      | inl short ↦ head_refusal level b e le (head_refused b e fits short)
      | inr head ↦
          let t = head_takes b head.0.1 head.0.0 fits head.1 in
          body_refused level (counted_item left) (λ c j r f is. item_takes (level + 1) left c j r next f is)
          (item_shortens left) (λ rest d left_fits r. refused left (level + 1) rest d next left_fits r)
          (opened head.0.0) head.0.0 b head.0.1 e refl le t.0 t.1 head.2
    ]
