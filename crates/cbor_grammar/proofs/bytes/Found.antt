-- If `read_item` returns an item and a rest, the bytes before the rest encode this item (`Spells`). Bytes that encode
-- members (`SpellsItems`, `SpellsPairs`) still do if more bytes follow.
use Rattle.std.proofs.Common.{◌≡◌, ℕ, zero, suc, ◌+◌, ◌≤◌, List, [], ◌∷◌, ◌++◌, length, Option, Some, None, Ok, ◌⊎◌}
use Rattle.std.proofs.Common.{inl, inr, refl, sym, ap, subst, ◌∙◌, append_assoc, arith}
use Rattle.std.specs.Int.{w16, w32, w64, to_be_bytes}
use Rattle.std.proofs.lemmas.Bool.{cases_eq, eq-eqb, ne_eqb}
use Rattle.std.proofs.lemmas.List.{append-nil}
use Rattle.cbor_grammar.specs.declared.width.IntegerWidth.{IntegerWidth}
use Rattle.cbor_grammar.specs.declared.width.FloatWidth.TheVariants as float_width
use Rattle.cbor_grammar.specs.declared.argument.Argument.{Argument}
use Rattle.cbor_grammar.specs.declared.argument.Argument.TheVariants.{Number, Indefinite}
use Rattle.cbor_grammar.specs.Item as spec
use Rattle.cbor_grammar.specs.Item.{Chunk, integer, negative, string, chunked_string, float, simple, Item, atom, array}
use Rattle.cbor_grammar.specs.Item.{tagged, Items, no_items, item, Pairs, no_pairs, pair, item_count, pair_count}
use Rattle.cbor_grammar.specs.declared.head.ItemHead.TheVariants as item_head
use Rattle.cbor_grammar.specs.declared.head.ItemHead.{ItemHead}
use Rattle.cbor_grammar.specs.Head.{opening, break_byte, HeadThen}
use Rattle.cbor_grammar.specs.WellFormed.{deepest}
use Rattle.cbor_grammar.specs.declared.strings.StringKind.{StringKind}
use Rattle.cbor_grammar.specs.StringKind.{major_of}
use Rattle.cbor_grammar.specs.Bytes.{any, OpenThen, ChunkThen, SpellsChunks, Spells, SpellsItems, SpellsPairs}
use Rattle.cbor_grammar.specs.Bytes.{MembersThen}
use Rattle.cbor_grammar.specs.Reading.{Counted, read_head, read_content, read_chunks, read_atom, Frame, items_in}
use Rattle.cbor_grammar.specs.Reading.{pairs_in}
use Rattle.cbor_grammar.specs.Reading.{value_of, tag_of, tagged_with, opened, after_break, after_members, after_end}
use Rattle.cbor_grammar.specs.Reading.{closed, count_width, read_body, counted_item, read_item}
use Rattle.cbor_grammar.proofs.bytes.Heads.{IsBytes, IsBytes-rest, bind_ok, then_ok, done, ok_is, ArgumentThen, HeadIs}
use Rattle.cbor_grammar.proofs.bytes.Heads.{head_front, head_takes}
use Rattle.cbor_grammar.proofs.bytes.Chunks.{content_takes, chunks_takes, chunks_front}
use Rattle.cbor_grammar.proofs.bytes.Steps.{Shortens, item_shortens}
use Rattle.cbor_grammar.proofs.bytes.Frames.{Spelled, Finds, and_more, and_none, Held, parts_halt}

-- members with more bytes after their end
pub items_append : (level : ℕ) (is : Items) (b end more : List ℕ) → SpellsItems any level b is end
    → SpellsItems any level (b ++ more) is (end ++ more)
items_append level no_items b end more h = ap (λ (x : List ℕ). x ++ more) h
items_append level (item i is) b end more h = (
  h.0,
  h.1 ++ more,
  ap (λ (x : List ℕ). x ++ more) h.2 ∙ append_assoc h.0 h.1 more,
  h.3,
  items_append level is h.1 end more h.4,
)

pub pairs_append : (level : ℕ) (ps : Pairs) (b end more : List ℕ) → SpellsPairs any level b ps end
    → SpellsPairs any level (b ++ more) ps (end ++ more)
pairs_append level no_pairs b end more h = ap (λ (x : List ℕ). x ++ more) h
pairs_append level (pair k v ps) b end more h = (
  h.0,
  h.1,
  h.2 ++ more,
  ap (λ (x : List ℕ). x ++ more) h.3 ∙ simp append_assoc,
  h.4,
  h.5,
  pairs_append level ps h.2 end more h.6,
)

-- whether a break is in front
pub break_ways : (b : List ℕ) → ((rest : List ℕ) × (b ≡ break_byte ∷ rest) × (after_break b ≡ Some rest))
    ⊎ (after_break b ≡ None)
break_ways [] = inr refl
break_ways (first ∷ b) =
    elim (cases_eq first break_byte) [
      | inl is ↦ inl (b, rw is refl, rw (eq-eqb first break_byte is) refl)
      | inr other ↦ inr (rw (ne_eqb first break_byte other) refl)
    ]

pub after_break_is : (b after : List ℕ) → after_break b ≡ Some after → b ≡ break_byte ∷ after
after_break_is b after e =
    elim (break_ways b) [
      | inl at ↦
          let both : Some at.0 ≡ Some after = sym at.2 ∙ e in
          let same : at.0 ≡ after = cc in
          at.1 ∙ ap (λ (x : List ℕ). break_byte ∷ x) same
      | inr none ↦ absurd (let wrong : None ≡ Some after = sym none ∙ e in cc)
    ]

-- an item that is what a reader gave
given : (level : ℕ) (b r rest : List ℕ) (j i : Item) → done {A = Item × List ℕ} (j, r) ≡ Ok (i, rest)
    → Spelled level b j r → Spelled level b i rest
given level b r rest j i e s = subst (λ (x : Item × List ℕ). Spelled level b x.0 x.1) (ok_is (j, r) (i, rest) e) s

-- an item that is a head, and the rest of a head
headed : (level : ℕ) (b r : List ℕ) (major n : ℕ) (w : IntegerWidth) (i : Item) → IsBytes r
    → HeadThen major n w b (λ x. x ≡ r)
    → ((front : List ℕ) → HeadThen major n w front (λ x. x ≡ []) → Spells any level front i) → Spelled level b i r
headed level b r major n w i fits h spells =
    let t = head_front major n w b r (λ x. x ≡ r) (λ x. x ≡ []) h (λ x e. ([], e, refl)) in
    record { front = t.0; parts = t.1; spells = spells t.0 t.2; rest_bytes = fits }

string_takes : (kind : StringKind) (n : ℕ) (w : IntegerWidth) (b r rest : List ℕ) (c : Chunk) → IsBytes r
    → HeadThen (major_of kind) n w b (λ x. x ≡ r) → read_content kind n w r ≡ Ok (c, rest)
    → (front : List ℕ) × (b ≡ front ++ rest) × ChunkThen kind c front (λ x. x ≡ []) × IsBytes rest
string_takes kind n w b r rest c fits h e =
    let t = content_takes kind n w r rest c fits e in
    let its_head : HeadThen (major_of kind) (length c.bytes) c.width b (λ x. x ≡ r) = rw (t.0, t.1) h in
    let f = head_front (major_of kind) (length c.bytes) c.width b rest (λ x. x ≡ r)
    (λ x. (end : List ℕ) × (x ≡ c.bytes ++ end) × (end ≡ [])) its_head
    (λ x is. (c.bytes ++ [], is ∙ t.3 ∙ simp append-nil, ([], refl, refl))) in
    (f.0, f.1, (t.2, f.2), t.4)

open_string_takes : (kind : StringKind) (b r rest : List ℕ) (cs : List Chunk) → IsBytes r
    → b ≡ opening (major_of kind) ∷ r → (read_chunks (length r) kind r).1 ≡ Ok (cs, rest)
    → (front : List ℕ) × (b ≡ front ++ rest)
    × OpenThen (major_of kind) front (λ x. SpellsChunks kind x cs (break_byte ∷ [])) × IsBytes rest
open_string_takes kind b r rest cs fits h e =
    let t = chunks_takes (length r) kind r rest cs fits e in
    let f = chunks_front kind cs r (break_byte ∷ []) rest t.0 in
    (opening (major_of kind) ∷ f.0, h ∙ ap (λ (x : List ℕ). opening (major_of kind) ∷ x) f.1, (f.0, refl, f.2), t.1)

-- ---- containers

-- the head that opened a container
abbrev pub OpenedBy : Frame → List ℕ → List ℕ → Type 0
OpenedBy (items_in is a) b rest = ArgumentThen 4 a b rest
OpenedBy (pairs_in ps a) b rest = ArgumentThen 5 a b rest
OpenedBy (tag_of t w) b rest = HeadThen 6 t w b (λ r. r ≡ rest)
OpenedBy _ b rest = ⊥

pub opened_by : (h : ItemHead) (f : Frame) (b rest : List ℕ) → opened h ≡ Some f → HeadIs h b rest → OpenedBy f b rest
opened_by (item_head.Array a) f b rest is head =
    let same : items_in no_items a ≡ f = cc in
    subst (λ (g : Frame). OpenedBy g b rest) same head
opened_by (item_head.Map a) f b rest is head =
    let same : pairs_in no_pairs a ≡ f = cc in
    subst (λ (g : Frame). OpenedBy g b rest) same head
opened_by (item_head.Tag n w) f b rest is head =
    let same : tag_of n w ≡ f = cc in
    subst (λ (g : Frame). OpenedBy g b rest) same head
opened_by h f b rest is head = absurd cc

-- nothing was read yet
pub opened_held : (level : ℕ) (h : ItemHead) (f : Frame) → opened h ≡ Some f → Held level f f []
opened_held level (item_head.Array a) f is =
    let same : items_in no_items a ≡ f = cc in
    subst (λ (g : Frame). Held level g g []) same (and_none a, refl)
opened_held level (item_head.Map a) f is =
    let same : pairs_in no_pairs a ≡ f = cc in
    subst (λ (g : Frame). Held level g g []) same (and_none a, refl)
opened_held level (item_head.Tag n w) f is =
    let same : tag_of n w ≡ f = cc in
    subst (λ (g : Frame). Held level g g []) same (refl, refl, refl)
opened_held level h f is = absurd cc

-- members that are over, after the head of their container
members_close : (major n : ℕ) (a left : Argument) (b r whole end rest : List ℕ) (Members : List ℕ → List ℕ → Type 0)
    → ArgumentThen major a b r → a ≡ and_more n left → r ≡ whole ++ end → after_members left end ≡ Some rest
    → IsBytes end → ((more : List ℕ) → Members (whole ++ more) more)
    → (front : List ℕ) × (b ≡ front ++ rest) × MembersThen major n (count_width left) front Members × IsBytes rest
members_close major n a (Number zero w) b r whole end rest Members head is parts over fits members =
    let same : end ≡ rest = cc in
    let count : n + 0 ≡ n = omega arith in
    let its_head : HeadThen major n w b (λ x. x ≡ r) =
    subst (λ (k : ℕ). HeadThen major k w b (λ x. x ≡ r)) count
    (subst (λ (x : Argument). ArgumentThen major x b r) is head) in
    let t = head_front major n w b rest (λ x. x ≡ r) (λ x. Members x []) its_head
    (λ x e. (
      whole,
      e ∙ parts ∙ ap (λ (y : List ℕ). whole ++ y) same,
      subst (λ (y : List ℕ). Members y []) (append-nil whole) (members []),
    )) in
    (t.0, t.1, t.2, subst IsBytes same fits)
members_close major n a (Number (suc m) w) b r whole end rest Members head is parts over fits members = absurd cc
members_close major n a Indefinite b r whole end rest Members head is parts over fits members =
    let its_head : b ≡ opening major ∷ r = subst (λ (x : Argument). ArgumentThen major x b r) is head in
    let break : end ≡ break_byte ∷ rest = after_break_is end rest over in
    let inner : List ℕ = whole ++ break_byte ∷ [] in
    let whole_is : r ≡ inner ++ rest = parts ∙ ap (λ (y : List ℕ). whole ++ y) break
    ∙ sym (append_assoc whole (break_byte ∷ []) rest) in (
      opening major ∷ inner,
      its_head ∙ ap (λ (y : List ℕ). opening major ∷ y) whole_is,
      (inner, refl, members (break_byte ∷ [])),
      IsBytes-rest break_byte rest (subst IsBytes break fits),
    )

-- a container that was read to its end
closes : (level : ℕ) (f g : Frame) (b r whole end rest : List ℕ) (i : Item) → level ≤ deepest → OpenedBy f b r
    → r ≡ whole ++ end → Held (level + 1) f g whole → IsBytes end → closed g ≡ Some i → after_end g end ≡ Some rest
    → Spelled level b i rest
closes level (items_in js a) (items_in is left) b r whole end rest i le head parts held fits closed ends =
    let t = members_close 4 (item_count is) a left b r whole end rest (λ x e. SpellsItems any (level + 1) x is e) head
    held.0 parts ends fits (λ more. items_append (level + 1) is whole [] more held.1) in
    let same : array is (count_width left) ≡ i = cc in
    subst (λ (j : Item). Spelled level b j rest) same
    (record { front = t.0; parts = t.1; spells = (le, t.2); rest_bytes = t.3 })
closes level (pairs_in qs a) (pairs_in ps left) b r whole end rest i le head parts held fits closed ends =
    let t = members_close 5 (pair_count ps) a left b r whole end rest (λ x e. SpellsPairs any (level + 1) x ps e) head
    held.0 parts ends fits (λ more. pairs_append (level + 1) ps whole [] more held.1) in
    let same : spec.map ps (count_width left) ≡ i = cc in
    subst (λ (j : Item). Spelled level b j rest) same
    (record { front = t.0; parts = t.1; spells = (le, t.2); rest_bytes = t.3 })
closes level (pairs_in qs a) (value_of ps k left) b r whole end rest i le head parts held fits closed ends = absurd cc
closes level (tag_of t w) (tag_of s v) b r whole end rest i le head parts held fits closed ends = absurd cc
closes level (tag_of t w) (tagged_with s v j) b r whole end rest i le head parts held fits closed ends =
    let same : tagged s v j ≡ i = cc in
    let over : end ≡ rest = cc in
    let f = head_front 6 t w b rest (λ x. x ≡ r) (λ x. Spells any (level + 1) x j) head
    (λ x e. (whole, e ∙ parts ∙ ap (λ (y : List ℕ). whole ++ y) over, held.2)) in
    let tag : Spells any level f.0 (tagged s v j) = rw (← held.0, ← held.1) (le, f.2) in
    subst (λ (j : Item). Spelled level b j rest) same
    (record { front = f.0; parts = f.1; spells = tag; rest_bytes = subst IsBytes over fits })
closes level f g b r whole end rest i le head parts held fits closed ends = absurd held

-- ---- items

-- an item that holds no item, after its head
atom_takes : (level : ℕ) (h : ItemHead) (b r rest : List ℕ) (i : Item) → level ≤ deepest → HeadIs h b r → IsBytes r
    → (read_atom h r).1 ≡ Ok (i, rest) → Spelled level b i rest
atom_takes level (item_head.Integer n w) b r rest i le h fits e =
    given level b r rest (atom (integer n w)) i e
    (headed level b r 0 n w (atom (integer n w)) fits h (λ front f. (le, f)))
atom_takes level (item_head.Negative n w) b r rest i le h fits e =
    given level b r rest (atom (negative n w)) i e
    (headed level b r 1 n w (atom (negative n w)) fits h (λ front f. (le, f)))
atom_takes level (item_head.String kind (Number n w)) b r rest i le h fits e =
    let a = bind_ok (read_content kind n w r) (λ c. Ok (atom (string kind c.0), c.1)) (i, rest) e in
    let t = string_takes kind n w b r a.0.1 a.0.0 fits h a.1 in
    given level b a.0.1 rest (atom (string kind a.0.0)) i a.2
    (record { front = t.0; parts = t.1; spells = (le, t.2); rest_bytes = t.3 })
atom_takes level (item_head.String kind Indefinite) b r rest i le h fits e =
    let a = then_ok (read_chunks (length r) kind r) (λ cs. (0, Ok (atom (chunked_string kind cs.0), cs.1)))
    (i, rest) e in
    let t = open_string_takes kind b r a.0.1 a.0.0 fits h a.1 in
    given level b a.0.1 rest (atom (chunked_string kind a.0.0)) i a.2
    (record { front = t.0; parts = t.1; spells = (le, t.2); rest_bytes = t.3 })
atom_takes level (item_head.Float bits float_width.Unknown) b r rest i le h fits e = absurd h
atom_takes level (item_head.Float bits float_width.Sixteen) b r rest i le h fits e =
    given level b r rest (atom (float bits float_width.Sixteen)) i e
    (record { front = 249 ∷ to_be_bytes w16 bits; parts = h.1; spells = (le, (h.0, refl)); rest_bytes = fits })
atom_takes level (item_head.Float bits float_width.ThirtyTwo) b r rest i le h fits e =
    given level b r rest (atom (float bits float_width.ThirtyTwo)) i e
    (record { front = 250 ∷ to_be_bytes w32 bits; parts = h.1; spells = (le, (h.0, refl)); rest_bytes = fits })
atom_takes level (item_head.Float bits float_width.SixtyFour) b r rest i le h fits e =
    given level b r rest (atom (float bits float_width.SixtyFour)) i e
    (record { front = 251 ∷ to_be_bytes w64 bits; parts = h.1; spells = (le, (h.0, refl)); rest_bytes = fits })
atom_takes level (item_head.Simple n) b r rest i le h fits e =
    given level b r rest (atom (simple n)) i e
    (record { front = h.0; parts = h.1; spells = (le, h.2); rest_bytes = fits })
atom_takes level h b r rest i le is fits e = absurd cc

body_takes : (level : ℕ) (read : List ℕ → Counted Item) (finds : Finds (level + 1) read) (short : Shortens read)
    (o : Option Frame) (h : ItemHead) (b r rest : List ℕ) (i : Item) → opened h ≡ o → level ≤ deepest → HeadIs h b r
    → IsBytes r → (read_body read o h r).1 ≡ Ok (i, rest) → Spelled level b i rest
body_takes level read finds short None h b r rest i is le head fits e = atom_takes level h b r rest i le head fits e
body_takes level read finds short (Some f) h b r rest i is le head fits e =
    let s = parts_halt (level + 1) read finds short (suc (length r)) f f r [] r (Ok (i, rest)) (omega arith) refl
    (opened_held (level + 1) h f is) fits e in
    closes level f s.frame b r s.whole s.rest rest i le (opened_by h f b r is head) s.parts s.held s.fits s.ended.0
    s.ended.1

pub item_takes : (level left : ℕ) (b : List ℕ) (i : Item) (rest : List ℕ) → level + left ≡ 129 → IsBytes b
    → read_item left b ≡ Ok (i, rest) → Spelled level b i rest
unfolding counted_item
item_takes level zero b i rest sum fits e = absurd cc
item_takes level (suc left) b i rest sum fits e =
    let a = then_ok (1, read_head b) (λ h. read_body (counted_item left) (opened h.0) h.0 h.1) (i, rest) e in
    let h = head_takes b a.0.1 a.0.0 fits a.1 in
    body_takes level (counted_item left) (λ c j r. item_takes (level + 1) left c j r (omega arith)) (item_shortens left)
    (opened a.0.0) a.0.0 b a.0.1 rest i refl (omega arith) h.0 h.1 a.2
