-- If bytes are heads with the content of strings, and breaks, and no head is a simple value below 32 in two bytes
-- (`PlainHeads`), then an item that they encode has no simple value from 24 to 31 in it. Such bytes also satisfy
-- `StrictHeads`.
use Rattle.std.proofs.Common.{◌≡◌, ℕ, ◌+◌, ◌≤◌, List, [], ◌∷◌, ◌++◌, length, drop, Option, Some, None, Ok}
use Rattle.std.proofs.Common.{inl, inr, refl, sym, ap, subst, ◌∙◌, append_assoc, append-nil, arith}
use Rattle.std.proofs.lemmas.List.{drop_at}
use Rattle.cbor_grammar.specs.declared.argument.Argument.{Argument}
use Rattle.cbor_grammar.specs.declared.argument.Argument.TheVariants.{Number, Indefinite}
use Rattle.cbor_grammar.specs.declared.head.ItemHead.{ItemHead}
use Rattle.cbor_grammar.specs.declared.head.ItemHead.TheVariants as item_head
use Rattle.cbor_grammar.specs.declared.strings.StringKind.{StringKind}
use Rattle.cbor_grammar.specs.declared.width.FloatWidth.TheVariants as float_width
use Rattle.cbor_grammar.specs.declared.width.IntegerWidth.{IntegerWidth}
use Rattle.cbor_grammar.specs.declared.width.IntegerWidth.TheVariants.{Zero, Eight, Sixteen, ThirtyTwo, SixtyFour}
use Rattle.cbor_grammar.specs.Bytes.{any, ChunkThen, SpellsChunks, MembersThen, Spells, SpellsItems, SpellsPairs}
use Rattle.cbor_grammar.specs.Head.{break_byte, HeadThen}
use Rattle.cbor_grammar.specs.Item as spec
use Rattle.cbor_grammar.specs.Item.{Chunk, integer, negative, string, chunked_string, float, simple, Item, atom}
use Rattle.cbor_grammar.specs.Item.{array, tagged, Items, no_items, item, Pairs, no_pairs, pair, item_count, pair_count}
use Rattle.cbor_grammar.specs.Reading.{read_argument, read_head, head_of}
use Rattle.cbor_grammar.specs.StringKind.{major_of}
use Rattle.cbor_grammar.specs.mirror.StrictHeads as strict
use Rattle.cbor_grammar.specs.mirror.StrictHeads.{IsShort, after_content, StrictHeads}
use Rattle.cbor_grammar.proofs.bytes.Chunks.{chunk_parts, chunk_append}
use Rattle.cbor_grammar.proofs.bytes.FoundAgain.{kind_major, string_head, head_behind}
use Rattle.cbor_grammar.proofs.bytes.Heads.{ok_is, cons_is, byte_of, head_append, head_again}
use Rattle.cbor_edn_grammar.specs.Reserved.{NoneReserved, NoneReservedItems, NoneReservedPairs}

-- of bytes that begin with that head: they do not begin with such a value
abbrev pub IsPlain : ItemHead → List ℕ → Type 0
IsPlain (item_head.Simple n) (first ∷ b) = first ≡ 0xf8 → 32 ≤ n
IsPlain h b = Unit {0}

-- the bytes are heads with the content of strings, and breaks
pub data PlainHeads : List ℕ → Type 0 where
  no_head : PlainHeads []
  a_break : {b : List ℕ} → PlainHeads b → PlainHeads (break_byte ∷ b)
  a_head : {b rest : List ℕ} {h : ItemHead} → read_head b ≡ Ok (h, rest) → IsPlain h b
      → PlainHeads (after_content h rest) → PlainHeads b

short : (h : ItemHead) (b : List ℕ) → IsPlain h b → IsShort h b
short (item_head.Simple n) [] plain = tt
short (item_head.Simple n) (first ∷ b) plain = λ is. omega (arith, plain is)
short h b plain = tt

-- such heads take no byte too many
pub are_strict : (b : List ℕ) → PlainHeads b → StrictHeads b
are_strict b no_head = strict.no_head
are_strict b (a_break {b = c} s) = strict.a_break (are_strict c s)
are_strict b (a_head {rest = r} {h = h} is plain s) =
    strict.a_head is (short h b plain) (are_strict (after_content h r) s)

-- ---- one head

-- no item begins with a break
break_refused : (b rest : List ℕ) (h : ItemHead) → read_head (break_byte ∷ b) ≡ Ok (h, rest) → ⊥
unfolding read_head read_argument head_of
break_refused b rest h e = cc

after_head : (b rest : List ℕ) (h : ItemHead) → PlainHeads b → read_head b ≡ Ok (h, rest)
    → IsPlain h b × PlainHeads (after_content h rest)
unfolding read_head
after_head b rest h no_head e = absurd cc
after_head b rest h (a_break {b = c} s) e = absurd (break_refused c rest h e)
after_head b rest h (a_head {rest = r} {h = g} is plain s) e =
    subst (λ (p : ItemHead × List ℕ). IsPlain p.0 b × PlainHeads (after_content p.0 p.1))
    (ok_is (g, r) (h, rest) (sym is ∙ e)) (plain, s)

after_break : (c b : List ℕ) → PlainHeads c → c ≡ break_byte ∷ b → PlainHeads b
after_break c b no_head e = absurd cc
after_break c b (a_break {b = d} s) e = subst PlainHeads (cons_is break_byte break_byte d b e).1 s
after_break c b (a_head {rest = r} {h = g} is plain s) e =
    absurd (break_refused b r g (ap read_head (sym e) ∙ is))

after_number : (major n : ℕ) (w : IntegerWidth) (b rest : List ℕ) (h : ItemHead) → major ≤ 7
    → head_of major (Number n w) ≡ Ok h → HeadThen major n w b (λ r. r ≡ rest) → PlainHeads b
    → IsPlain h b × PlainHeads (after_content h rest)
after_number major n w b rest h le is spelled s =
    after_head b rest h s (head_again major (Number n w) h b rest le spelled is)

-- ---- strings

after_chunk : (kind : StringKind) (b rest more : List ℕ) (c : Chunk) → ChunkThen kind c b (λ r. r ≡ rest)
    → PlainHeads (b ++ more) → PlainHeads (rest ++ more)
after_chunk kind b rest more c is s =
    let a = chunk_append kind b more c (λ r. r ≡ rest) (λ r. r ≡ rest ++ more) is
    (λ r e. ap (λ (y : List ℕ). y ++ more) e) in
    let n : Argument = Number (length c.bytes) c.width in
    let parts : a.1.1 ≡ c.bytes ++ (rest ++ more) = a.1.3.1 ∙ ap (λ (y : List ℕ). c.bytes ++ y) a.1.3.2 in
    let read = head_again (major_of kind) n (item_head.String kind n) (b ++ more) a.1.1
    (omega (arith, kind_major kind)) (a.1.0, a.1.1, a.1.2, refl) (string_head kind n) in
    subst PlainHeads (ap (drop (length c.bytes)) parts ∙ drop_at c.bytes (rest ++ more) (length c.bytes) refl)
    (after_head (b ++ more) a.1.1 (item_head.String kind n) s read).1

after_chunks : (kind : StringKind) (b : List ℕ) (cs : List Chunk) (end more : List ℕ) → SpellsChunks kind b cs end
    → PlainHeads (b ++ more) → PlainHeads (end ++ more)
after_chunks kind b [] end more h s = subst (λ (y : List ℕ). PlainHeads (y ++ more)) h s
after_chunks kind b (c ∷ cs) end more h s =
    let p = chunk_parts kind b c _ h in
    after_chunks kind p.rest cs end more p.holds (after_chunk kind b p.rest more c p.is s)

-- ---- containers

-- what of the parts of a container follows
abbrev Follows : (List ℕ → List ℕ → Type 0) → Type 0 → List ℕ → Type 0
Follows Parts Free more =
    (b end : List ℕ) → Parts b end → PlainHeads (b ++ more) → Free × PlainHeads (end ++ more)

after_members : (major n : ℕ) (w : Option IntegerWidth) (x more : List ℕ) (h : Argument → ItemHead)
    (Parts : List ℕ → List ℕ → Type 0) (Free : Type 0) → major ≤ 7 → ((a : Argument) → head_of major a ≡ Ok (h a))
    → ((a : Argument) (b : List ℕ) → after_content (h a) b ≡ b) → Follows Parts Free more
    → MembersThen major n w x Parts → PlainHeads (x ++ more) → Free × PlainHeads more
after_members major n (Some w) x more h Parts Free le is alone follows spelled s =
    let g = head_append major n w x more (λ r. r ≡ spelled.1) (λ r. r ≡ spelled.1 ++ more)
    (spelled.0, spelled.1, spelled.2, refl) (λ r e. ap (λ (y : List ℕ). y ++ more) e) in
    let f = after_number major n w (x ++ more) (spelled.1 ++ more) (h (Number n w)) le (is (Number n w)) g s in
    follows spelled.1 [] spelled.3 (subst PlainHeads (alone (Number n w) (spelled.1 ++ more)) f.1)
after_members major n None x more h Parts Free le is alone follows spelled s =
    let read = head_again major Indefinite (h Indefinite) (x ++ more) (spelled.0 ++ more) le
    (ap (λ (y : List ℕ). y ++ more) spelled.1) (is Indefinite) in
    let f = after_head (x ++ more) (spelled.0 ++ more) (h Indefinite) s read in
    let p = follows spelled.0 (break_byte ∷ []) spelled.2
    (subst PlainHeads (alone Indefinite (spelled.0 ++ more)) f.1) in
    (p.0, after_break (break_byte ∷ more) more p.1 refl)

-- ---- items

mutual
  unfolding head_of

  item_free : (level : ℕ) (x : List ℕ) (i : Item) (more : List ℕ) → Spells any level x i → PlainHeads (x ++ more)
      → NoneReserved i × PlainHeads more
  item_free level x (atom (integer n w)) more h s = (
    tt,
    (after_number 0 n w (x ++ more) more (item_head.Integer n w) (omega arith) refl (head_behind 0 n w x more h.1) s).1,
  )
  item_free level x (atom (negative n w)) more h s = (
    tt,
    (after_number 1 n w (x ++ more) more (item_head.Negative n w) (omega arith) refl
        (head_behind 1 n w x more h.1) s).1,
  )
  item_free level x (atom (string kind c)) more h s = (tt, after_chunk kind x [] more c h.1 s)
  item_free level x (atom (chunked_string kind cs)) more h s =
      let read = head_again (major_of kind) Indefinite (item_head.String kind Indefinite) (x ++ more) (h.1.0 ++ more)
      (omega (arith, kind_major kind)) (ap (λ (y : List ℕ). y ++ more) h.1.1) (string_head kind Indefinite) in
      let f = after_head (x ++ more) (h.1.0 ++ more) (item_head.String kind Indefinite) s read in
      (tt, after_break (break_byte ∷ more) more (after_chunks kind h.1.0 cs (break_byte ∷ []) more h.1.2 f.1) refl)
  item_free level x (atom (float bits float_width.Unknown)) more h s = absurd h.1
  item_free level x (atom (float bits float_width.Sixteen)) more h s = (
    tt,
    (after_number 7 bits Sixteen (x ++ more) more (item_head.Float bits float_width.Sixteen) (omega arith) refl
        (h.1.0, more, ap (λ (y : List ℕ). y ++ more) h.1.1, refl) s).1,
  )
  item_free level x (atom (float bits float_width.ThirtyTwo)) more h s = (
    tt,
    (after_number 7 bits ThirtyTwo (x ++ more) more (item_head.Float bits float_width.ThirtyTwo) (omega arith) refl
        (h.1.0, more, ap (λ (y : List ℕ). y ++ more) h.1.1, refl) s).1,
  )
  item_free level x (atom (float bits float_width.SixtyFour)) more h s = (
    tt,
    (after_number 7 bits SixtyFour (x ++ more) more (item_head.Float bits float_width.SixtyFour) (omega arith) refl
        (h.1.0, more, ap (λ (y : List ℕ). y ++ more) h.1.1, refl) s).1,
  )
  item_free level x (atom (simple n)) more (le, inl h) s =
      let f = after_number 7 n Zero (x ++ more) more (item_head.Simple n) (omega arith) refl
      (h.0, more, ap (λ (y : List ℕ). y ++ more) h.1, refl) s in
      (inl h.0, f.1)
  item_free level x (atom (simple n)) more (le, inr h) s =
      let two : x ++ more ≡ 0xf8 ∷ (n ∷ more) = ap (λ (y : List ℕ). y ++ more) h.1 in
      let spelled : HeadThen 7 n Eight (x ++ more) (λ r. r ≡ more) =
      (h.0, more, two ∙ ap (λ (y : List ℕ). 0xf8 ∷ (y ++ more)) (sym (byte_of n h.0)), refl) in
      let f = after_number 7 n Eight (x ++ more) more (item_head.Simple n) (omega arith) refl spelled s in
      let least : 32 ≤ n = subst (λ (y : List ℕ). IsPlain (item_head.Simple n) y) two f.0 refl in
      (inr least, f.1)
  item_free level x (array is w) more h s =
      after_members 4 (item_count is) w x more (λ a. item_head.Array a)
      (λ b end. SpellsItems any (level + 1) b is end) (NoneReservedItems is) (omega arith)
      (λ a. refl) (λ a b. refl) (λ b end t r. items_free (level + 1) b is end more t r) h.1 s
  item_free level x (spec.map ps w) more h s =
      after_members 5 (pair_count ps) w x more (λ a. item_head.Map a)
      (λ b end. SpellsPairs any (level + 1) b ps end) (NoneReservedPairs ps) (omega arith)
      (λ a. refl) (λ a b. refl) (λ b end t r. pairs_free (level + 1) b ps end more t r) h.1 s
  item_free level x (tagged t w i) more h s =
      let g = head_append 6 t w x more (λ r. r ≡ h.1.1) (λ r. r ≡ h.1.1 ++ more) (h.1.0, h.1.1, h.1.2, refl)
      (λ r e. ap (λ (y : List ℕ). y ++ more) e) in
      let f = after_number 6 t w (x ++ more) (h.1.1 ++ more) (item_head.Tag t w) (omega arith) refl g s in
      item_free (level + 1) h.1.1 i more h.1.3 f.1

  items_free : (level : ℕ) (b : List ℕ) (is : Items) (end more : List ℕ) → SpellsItems any level b is end
      → PlainHeads (b ++ more) → NoneReservedItems is × PlainHeads (end ++ more)
  items_free level b no_items end more h s = (tt, subst (λ (y : List ℕ). PlainHeads (y ++ more)) h s)
  items_free level b (item i is) end more h s =
      let parts : b ++ more ≡ h.0 ++ (h.1 ++ more) =
      ap (λ (y : List ℕ). y ++ more) h.2 ∙ append_assoc h.0 h.1 more in
      let first = item_free level h.0 i (h.1 ++ more) h.3 (subst PlainHeads parts s) in
      let others = items_free level h.1 is end more h.4 first.1 in
      ((first.0, others.0), others.1)

  pairs_free : (level : ℕ) (b : List ℕ) (ps : Pairs) (end more : List ℕ) → SpellsPairs any level b ps end
      → PlainHeads (b ++ more) → NoneReservedPairs ps × PlainHeads (end ++ more)
  pairs_free level b no_pairs end more h s = (tt, subst (λ (y : List ℕ). PlainHeads (y ++ more)) h s)
  pairs_free level b (pair k v ps) end more h s =
      let parts : b ++ more ≡ h.0 ++ (h.1 ++ (h.2 ++ more)) =
      ap (λ (y : List ℕ). y ++ more) h.3 ∙ append_assoc h.0 (h.1 ++ h.2) more
      ∙ ap (λ (y : List ℕ). h.0 ++ y) (append_assoc h.1 h.2 more) in
      let key = item_free level h.0 k (h.1 ++ (h.2 ++ more)) h.4 (subst PlainHeads parts s) in
      let value = item_free level h.1 v (h.2 ++ more) h.5 key.1 in
      let others = pairs_free level h.2 ps end more h.6 value.1 in
      ((key.0, value.0, others.0), others.1)

-- an item that such bytes spell has none of these values
pub free_item : (level : ℕ) (b : List ℕ) (i : Item) → Spells any level b i → PlainHeads b → NoneReserved i
free_item level b i h s = (item_free level b i [] h (subst PlainHeads (sym (append-nil b)) s)).0

pub free_items : (level : ℕ) (b : List ℕ) (is : Items) → SpellsItems any level b is [] → PlainHeads b
    → NoneReservedItems is
free_items level b is h s = (items_free level b is [] [] h (subst PlainHeads (sym (append-nil b)) s)).0
