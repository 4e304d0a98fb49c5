-- For `strict.rt`, which goes from head to head: bytes that spell an item spell it strictly, and are its encoding, if
-- no head in them is a simple value below 24 in two bytes (`StrictHeads`). Bytes have `StrictHeads` if they begin with
-- a break or a head that is no such value, and the bytes after that, and after the content of a string, have
-- `StrictHeads`.
use Rattle.std.proofs.Common.{◌≡◌, ◌≢◌, ℕ, zero, suc, ◌+◌, ◌-◌, ◌/◌, ◌%◌, ◌^◌, ◌<◌, ◌≤◌, ◌⊎◌, Bool, false, cond, ltb}
use Rattle.std.proofs.Common.{List, [], ◌∷◌, ◌++◌}
use Rattle.std.proofs.Common.{length, take, drop, Option}
use Rattle.std.proofs.Common.{Some, None, Ok, inl, inr, refl, sym, ap, subst, ◌∙◌, append_assoc, arith}
use Rattle.std.specs.Int.{byte_len, from_be_bytes}
use Rattle.std.proofs.lemmas.Bool.{cases_lt, cases_eq, ne_eqb, le-ltb}
use Rattle.std.proofs.Math.Seq.{take-length}
use Rattle.std.proofs.lemmas.List.{append-nil, drop_at}
use Rattle.cbor_grammar.specs.declared.width.IntegerWidth.{IntegerWidth}
use Rattle.cbor_grammar.specs.declared.width.IntegerWidth.TheVariants.{Zero, Eight, Sixteen, ThirtyTwo, SixtyFour}
use Rattle.cbor_grammar.specs.declared.width.FloatWidth.TheVariants as float_width
use Rattle.cbor_grammar.specs.declared.error.Error.TheVariants as refusal
use Rattle.cbor_grammar.specs.declared.argument.Argument.{Argument}
use Rattle.cbor_grammar.specs.declared.argument.Argument.TheVariants.{Number, Indefinite}
use Rattle.cbor_grammar.specs.Head.{break_byte, HeadThen}
use Rattle.cbor_grammar.specs.Item as spec
use Rattle.cbor_grammar.specs.Item.{Chunk, integer, negative, string, chunked_string, float, simple, Item, atom}
use Rattle.cbor_grammar.specs.Item.{array, tagged, Items, no_items, item, Pairs, no_pairs, pair, item_count, pair_count}
use Rattle.cbor_grammar.specs.declared.head.ItemHead.TheVariants as item_head
use Rattle.cbor_grammar.specs.declared.head.ItemHead.{ItemHead}
use Rattle.cbor_grammar.specs.declared.strings.StringKind.{StringKind}
use Rattle.cbor_grammar.specs.declared.strings.StringKind.TheVariants.{Bytes, Text}
use Rattle.cbor_grammar.specs.StringKind.{major_of}
use Rattle.cbor_grammar.specs.Bytes.{any, strict, ChunkThen, SpellsChunks, MembersThen, Spells, SpellsItems}
use Rattle.cbor_grammar.specs.Bytes.{SpellsPairs}
use Rattle.cbor_grammar.specs.Facts.{IsItem, IsStrictItem, BeginsWithItem}
use Rattle.cbor_grammar.specs.Reading as reading
use Rattle.cbor_grammar.specs.Reading.{read_wide, read_argument, read_head, head_of}
use Rattle.cbor_grammar.specs.Written.{encoded}
use Rattle.cbor_grammar.specs.mirror.StrictHeads.{LongSimple, NoLongSimple, IsShort, after_content, StrictHeads}
use Rattle.cbor_grammar.specs.mirror.StrictHeads.{no_head, a_break, IsNumberLen, BeginsString, IsBodyLen}
use Rattle.cbor_grammar.specs.mirror.StrictHeads.{a_head}
use Rattle.cbor_grammar.proofs.bytes.Heads.{IsBytes, refused, ok_is, cons_is, byte_of, head_append, head_again}
use Rattle.cbor_grammar.proofs.bytes.Heads.{info_way, in_byte, in_bytes, no_number, no_meaning, at_majors}
use Rattle.cbor_bytes.proofs.bytes.NoLongSimple.{plainly_spelled}
use Rattle.cbor_grammar.proofs.bytes.Strict.{strict_only}
use Rattle.cbor_grammar.proofs.bytes.Chunks.{chunk_parts, chunk_append}
use Rattle.cbor_grammar.proofs.bytes.FoundAgain.{kind_major, string_head, head_behind}

-- ---- one head

-- no item begins with a break
break_refused : (b rest : List ℕ) (h : ItemHead) → read_head (break_byte ∷ b) ≡ Ok (h, rest) → ⊥
unfolding read_head read_argument head_of
break_refused b rest h e = cc

-- where a head comes next, it is short, and strict heads follow it
after_head : (b rest : List ℕ) (h : ItemHead) → StrictHeads b → read_head b ≡ Ok (h, rest)
    → IsShort h b × StrictHeads (after_content h rest)
unfolding read_head
after_head b rest h no_head e = absurd cc
after_head b rest h (a_break {b = c} s) e = absurd (break_refused c rest h e)
after_head b rest h (a_head {rest = r} {h = g} is short s) e =
    subst (λ (p : ItemHead × List ℕ). IsShort p.0 b × StrictHeads (after_content p.0 p.1))
    (ok_is (g, r) (h, rest) (sym is ∙ e)) (short, s)

-- where a break comes next, strict heads follow it
after_break : (c b : List ℕ) → StrictHeads c → c ≡ break_byte ∷ b → StrictHeads b
after_break c b no_head e = absurd cc
after_break c b (a_break {b = d} s) e = subst StrictHeads (cons_is break_byte break_byte d b e).1 s
after_break c b (a_head {rest = r} {h = g} is short s) e =
    absurd (break_refused b r g (ap read_head (sym e) ∙ is))

-- a head that is not that of a simple value below 24 in a non-minimal encoding (`f8 00`) is short
short_head : (b rest : List ℕ) (h : ItemHead) → IsBytes b → ¬ (LongSimple b) → read_head b ≡ Ok (h, rest)
    → IsShort h b
unfolding read_head read_argument read_wide head_of
short_head [] rest h fits plain e = absurd cc
short_head (first ∷ []) rest (item_head.Simple n) fits plain e = λ is.
    let wrong : refused {A = ItemHead × List ℕ} refusal.CutShort ≡ Ok (item_head.Simple n, rest) =
    ap (λ (f : ℕ). read_head (f ∷ [])) (sym is) ∙ e in
    absurd cc
short_head (first ∷ (m ∷ b)) rest (item_head.Simple n) fits plain e = λ is.
    let spelled : HeadThen 7 m Eight (0xf8 ∷ (m ∷ b)) (λ r. r ≡ b) =
    (fits 1, b, ap (λ (y : List ℕ). 0xf8 ∷ (y ++ b)) (sym (byte_of m (fits 1))), refl) in
    let again = head_again 7 (Number m Eight) (item_head.Simple m) (0xf8 ∷ (m ∷ b)) b (omega arith) spelled refl in
    let same = ok_is (item_head.Simple m, b) (item_head.Simple n, rest)
    (sym again ∙ ap (λ (f : ℕ). read_head (f ∷ (m ∷ b))) (sym is) ∙ e) in
    let value : m ≡ n = (let heads = ap (λ (p : ItemHead × List ℕ). p.0) same in cc) in
    elim (cases_lt m 24) [
      | inl lt ↦ absurd (plain (is, lt))
      | inr le ↦ subst (λ (k : ℕ). 24 ≤ k) value le
    ]
short_head b rest h fits plain e = tt

-- ---- strings

-- strict heads after a string of definite length
chunk_strict : (kind : StringKind) (b rest more : List ℕ) (c : Chunk) → ChunkThen kind c b (λ r. r ≡ rest)
    → StrictHeads (b ++ more) → StrictHeads (rest ++ more)
chunk_strict kind b rest more c is s =
    let a = chunk_append kind b more c (λ r. r ≡ rest) (λ r. r ≡ rest ++ more) is
    (λ r e. ap (λ (y : List ℕ). y ++ more) e) in
    let n : Argument = Number (length c.bytes) c.width in
    let parts : a.1.1 ≡ c.bytes ++ (rest ++ more) = a.1.3.1 ∙ ap (λ (y : List ℕ). c.bytes ++ y) a.1.3.2 in
    let read = head_again (major_of kind) n (item_head.String kind n) (b ++ more) a.1.1
    (omega (arith, kind_major kind)) (a.1.0, a.1.1, a.1.2, refl) (string_head kind n) in
    subst StrictHeads (ap (drop (length c.bytes)) parts ∙ drop_at c.bytes (rest ++ more) (length c.bytes) refl)
    (after_head (b ++ more) a.1.1 (item_head.String kind n) s read).1

-- and after chunks
chunks_strict : (kind : StringKind) (b : List ℕ) (cs : List Chunk) (end more : List ℕ) → SpellsChunks kind b cs end
    → StrictHeads (b ++ more) → StrictHeads (end ++ more)
chunks_strict kind b [] end more h s = subst (λ (y : List ℕ). StrictHeads (y ++ more)) h s
chunks_strict kind b (c ∷ cs) end more h s =
    let p = chunk_parts kind b c _ h in
    chunks_strict kind p.rest cs end more p.holds (chunk_strict kind b p.rest more c p.is s)

-- ---- heads with a number, and indefinite ones

front_strict : (major n : ℕ) (w : IntegerWidth) (b rest : List ℕ) (h : ItemHead) → major ≤ 7
    → head_of major (Number n w) ≡ Ok h → HeadThen major n w b (λ r. r ≡ rest) → StrictHeads b
    → IsShort h b × StrictHeads (after_content h rest)
front_strict major n w b rest h le is spelled s =
    after_head b rest h s (head_again major (Number n w) h b rest le spelled is)

-- what the parts of a container pass on
abbrev PassesOn : (List ℕ → List ℕ → Type 0) → (List ℕ → List ℕ → Type 0) → List ℕ → Type 0
PassesOn Any Strict more =
    (b end : List ℕ) → Any b end → StrictHeads (b ++ more) → Strict b end × StrictHeads (end ++ more)

-- a container whose parts are strict where strict heads are
members_strict : (major n : ℕ) (w : Option IntegerWidth) (x more : List ℕ) (h : Argument → ItemHead)
    (Any Strict : List ℕ → List ℕ → Type 0) → major ≤ 7 → ((a : Argument) → head_of major a ≡ Ok (h a))
    → ((a : Argument) (b : List ℕ) → after_content (h a) b ≡ b) → PassesOn Any Strict more
    → MembersThen major n w x Any → StrictHeads (x ++ more) → MembersThen major n w x Strict × StrictHeads more
members_strict major n (Some w) x more h Any Strict le is alone pass spelled s =
    let g = head_append major n w x more (λ r. r ≡ spelled.1) (λ r. r ≡ spelled.1 ++ more)
    (spelled.0, spelled.1, spelled.2, refl) (λ r e. ap (λ (y : List ℕ). y ++ more) e) in
    let f = front_strict major n w (x ++ more) (spelled.1 ++ more) (h (Number n w)) le (is (Number n w)) g s in
    let p = pass spelled.1 [] spelled.3 (subst StrictHeads (alone (Number n w) (spelled.1 ++ more)) f.1) in
    ((spelled.0, spelled.1, spelled.2, p.0), p.1)
members_strict major n None x more h Any Strict le is alone pass spelled s =
    let read = head_again major Indefinite (h Indefinite) (x ++ more) (spelled.0 ++ more) le
    (ap (λ (y : List ℕ). y ++ more) spelled.1) (is Indefinite) in
    let f = after_head (x ++ more) (spelled.0 ++ more) (h Indefinite) s read in
    let p = pass spelled.0 (break_byte ∷ []) spelled.2
    (subst StrictHeads (alone Indefinite (spelled.0 ++ more)) f.1) in
    ((spelled.0, spelled.1, p.0), after_break (break_byte ∷ more) more p.1 refl)

-- ---- items

mutual
  unfolding head_of

  item_strict : (level : ℕ) (x : List ℕ) (i : Item) (more : List ℕ) → Spells any level x i → StrictHeads (x ++ more)
      → Spells strict level x i × StrictHeads more
  item_strict level x (atom (integer n w)) more h s = (
    h,
    (front_strict 0 n w (x ++ more) more (item_head.Integer n w) (omega arith) refl (head_behind 0 n w x more h.1) s).1,
  )
  item_strict level x (atom (negative n w)) more h s = (
    h,
    (front_strict 1 n w (x ++ more) more (item_head.Negative n w) (omega arith) refl
        (head_behind 1 n w x more h.1) s).1,
  )
  item_strict level x (atom (string kind c)) more h s = (h, chunk_strict kind x [] more c h.1 s)
  item_strict level x (atom (chunked_string kind cs)) more h s =
      let read = head_again (major_of kind) Indefinite (item_head.String kind Indefinite) (x ++ more) (h.1.0 ++ more)
      (omega (arith, kind_major kind)) (ap (λ (y : List ℕ). y ++ more) h.1.1) (string_head kind Indefinite) in
      let f = after_head (x ++ more) (h.1.0 ++ more) (item_head.String kind Indefinite) s read in
      (h, after_break (break_byte ∷ more) more (chunks_strict kind h.1.0 cs (break_byte ∷ []) more h.1.2 f.1) refl)
  item_strict level x (atom (float bits float_width.Unknown)) more h s = absurd h.1
  item_strict level x (atom (float bits float_width.Sixteen)) more h s = (
    h,
    (front_strict 7 bits Sixteen (x ++ more) more (item_head.Float bits float_width.Sixteen) (omega arith) refl
        (h.1.0, more, ap (λ (y : List ℕ). y ++ more) h.1.1, refl) s).1,
  )
  item_strict level x (atom (float bits float_width.ThirtyTwo)) more h s = (
    h,
    (front_strict 7 bits ThirtyTwo (x ++ more) more (item_head.Float bits float_width.ThirtyTwo) (omega arith) refl
        (h.1.0, more, ap (λ (y : List ℕ). y ++ more) h.1.1, refl) s).1,
  )
  item_strict level x (atom (float bits float_width.SixtyFour)) more h s = (
    h,
    (front_strict 7 bits SixtyFour (x ++ more) more (item_head.Float bits float_width.SixtyFour) (omega arith) refl
        (h.1.0, more, ap (λ (y : List ℕ). y ++ more) h.1.1, refl) s).1,
  )
  item_strict level x (atom (simple n)) more (le, inl h) s =
      let f = front_strict 7 n Zero (x ++ more) more (item_head.Simple n) (omega arith) refl
      (h.0, more, ap (λ (y : List ℕ). y ++ more) h.1, refl) s in
      ((le, inl h), f.1)
  item_strict level x (atom (simple n)) more (le, inr h) s =
      let two : x ++ more ≡ 0xf8 ∷ (n ∷ more) = ap (λ (y : List ℕ). y ++ more) h.1 in
      let spelled : HeadThen 7 n Eight (x ++ more) (λ r. r ≡ more) =
      (h.0, more, two ∙ ap (λ (y : List ℕ). 0xf8 ∷ (y ++ more)) (sym (byte_of n h.0)), refl) in
      let f = front_strict 7 n Eight (x ++ more) more (item_head.Simple n) (omega arith) refl spelled s in
      let least : 24 ≤ n = subst (λ (y : List ℕ). IsShort (item_head.Simple n) y) two f.0 refl in
      ((le, inr (least, h.0, h.1)), f.1)
  item_strict level x (array is w) more h s =
      let m = members_strict 4 (item_count is) w x more (λ a. item_head.Array a)
      (λ b end. SpellsItems any (level + 1) b is end) (λ b end. SpellsItems strict (level + 1) b is end) (omega arith)
      (λ a. refl) (λ a b. refl) (λ b end t r. items_strict (level + 1) b is end more t r) h.1 s in
      ((h.0, m.0), m.1)
  item_strict level x (spec.map ps w) more h s =
      let m = members_strict 5 (pair_count ps) w x more (λ a. item_head.Map a)
      (λ b end. SpellsPairs any (level + 1) b ps end) (λ b end. SpellsPairs strict (level + 1) b ps end) (omega arith)
      (λ a. refl) (λ a b. refl) (λ b end t r. pairs_strict (level + 1) b ps end more t r) h.1 s in
      ((h.0, m.0), m.1)
  item_strict level x (tagged t w i) more h s =
      let g = head_append 6 t w x more (λ r. r ≡ h.1.1) (λ r. r ≡ h.1.1 ++ more) (h.1.0, h.1.1, h.1.2, refl)
      (λ r e. ap (λ (y : List ℕ). y ++ more) e) in
      let f = front_strict 6 t w (x ++ more) (h.1.1 ++ more) (item_head.Tag t w) (omega arith) refl g s in
      let below = item_strict (level + 1) h.1.1 i more h.1.3 f.1 in
      ((h.0, (h.1.0, h.1.1, h.1.2, below.0)), below.1)

  items_strict : (level : ℕ) (b : List ℕ) (is : Items) (end more : List ℕ) → SpellsItems any level b is end
      → StrictHeads (b ++ more) → SpellsItems strict level b is end × StrictHeads (end ++ more)
  items_strict level b no_items end more h s = (h, subst (λ (y : List ℕ). StrictHeads (y ++ more)) h s)
  items_strict level b (item i is) end more h s =
      let parts : b ++ more ≡ h.0 ++ (h.1 ++ more) =
      ap (λ (y : List ℕ). y ++ more) h.2 ∙ append_assoc h.0 h.1 more in
      let first = item_strict level h.0 i (h.1 ++ more) h.3 (subst StrictHeads parts s) in
      let others = items_strict level h.1 is end more h.4 first.1 in
      ((h.0, h.1, h.2, first.0, others.0), others.1)

  pairs_strict : (level : ℕ) (b : List ℕ) (ps : Pairs) (end more : List ℕ) → SpellsPairs any level b ps end
      → StrictHeads (b ++ more) → SpellsPairs strict level b ps end × StrictHeads (end ++ more)
  pairs_strict level b no_pairs end more h s = (h, subst (λ (y : List ℕ). StrictHeads (y ++ more)) h s)
  pairs_strict level b (pair k v ps) end more h s =
      let parts : b ++ more ≡ h.0 ++ (h.1 ++ (h.2 ++ more)) =
      ap (λ (y : List ℕ). y ++ more) h.3 ∙ append_assoc h.0 (h.1 ++ h.2) more
      ∙ ap (λ (y : List ℕ). h.0 ++ y) (append_assoc h.1 h.2 more) in
      let key = item_strict level h.0 k (h.1 ++ (h.2 ++ more)) h.4 (subst StrictHeads parts s) in
      let value = item_strict level h.1 v (h.2 ++ more) h.5 key.1 in
      let others = pairs_strict level h.2 ps end more h.6 value.1 in
      ((h.0, h.1, h.2, h.3, key.0, value.0, others.0), others.1)

-- an item spelled with strict heads is spelled strictly
pub strictly_spelled : (level : ℕ) (b : List ℕ) (i : Item) → Spells any level b i → StrictHeads b
    → Spells strict level b i
strictly_spelled level b i h s = (item_strict level b i [] h (subst StrictHeads (sym (append-nil b)) s)).0

-- ---- steps of the search

-- strict heads after a break are strict heads with it
pub with_break : (b rest : List ℕ) → reading.after_break b ≡ Some rest → StrictHeads rest → StrictHeads b
with_break [] rest e s = absurd cc
with_break (first ∷ b) rest e s =
    elim (cases_eq first break_byte) [
      | inl is ↦
          let some : Some b ≡ Some rest = subst (λ (f : ℕ). reading.after_break (f ∷ b) ≡ Some rest) is e in
          let same : b ≡ rest = cc in
          rw (is, same) (a_break s)
      | inr other ↦
          absurd (let wrong = subst (λ (t : Bool). cond t (Some b) None ≡ Some rest) (ne_eqb first break_byte other) e
          in cc)
    ]

-- and those after a head that takes no byte too many are strict heads with it
pub with_head : (b rest after : List ℕ) (h : ItemHead) → IsBytes b → ¬ (LongSimple b) → read_head b ≡ Ok (h, rest)
    → after ≡ after_content h rest → StrictHeads after → StrictHeads b
with_head b rest after h fits plain e is s = a_head e (short_head b rest h fits plain e) (subst StrictHeads is s)

-- ---- heads with a number that is not read

-- a number of that many bytes is there
number_there : (info k : ℕ) (b : List ℕ) → IsNumberLen info k → k ≤ length b
    → (n : ℕ) × (w : IntegerWidth) × (read_argument info b ≡ Ok (Number n w, drop k b))
unfolding read_wide
number_there info k b (inl is) long =
    elim (info_way info b) [
      | in_byte lt reads ↦ (info, Zero, reads ∙ ap (λ (j : ℕ). Ok (Number info Zero, drop j b)) (sym is.1))
      | in_bytes j w width way reads ↦ absurd (omega (arith, is.0, way.is))
      | no_number other reads ↦ absurd (omega (arith, is.0, other))
      | no_meaning least other reads ↦ absurd (omega (arith, is.0, least))
    ]
number_there info k b (inr is) long =
    elim (info_way info b) [
      | in_byte lt reads ↦ absurd (omega (arith, is.0, lt))
      | in_bytes j w width way reads ↦
          let exponent : info - 24 ≡ j = omega (arith, way.is) in
          let len : byte_len w ≡ k = way.len ∙ ap (λ (x : ℕ). 2 ^ x) (sym exponent) ∙ sym is.2 in
          let there : ltb (length b) (byte_len w) ≡ false = le-ltb _ _ (rw len long) in
          let value = from_be_bytes w (take (byte_len w) b) in
          (value, width, reads ∙ (rw there refl ∙ ap (λ (x : ℕ). Ok (Number value width, drop x b)) len))
      | no_number other reads ↦ absurd (omega (arith, is.1, other))
      | no_meaning least other reads ↦ absurd (omega (arith, is.1, least))
    ]

-- a head of another major type than those of strings, which has no content
record Plain (major n : ℕ) (w : IntegerWidth) : Type 0 where
  h : ItemHead
  is : head_of major (Number n w) ≡ Ok h
  alone : (b : List ℕ) → after_content h b ≡ b

plain_special : (n : ℕ) (w : IntegerWidth) → Plain 7 n w
unfolding head_of
plain_special n Sixteen = record { h = item_head.Float n float_width.Sixteen; is = refl; alone = λ b. refl }
plain_special n ThirtyTwo = record { h = item_head.Float n float_width.ThirtyTwo; is = refl; alone = λ b. refl }
plain_special n SixtyFour = record { h = item_head.Float n float_width.SixtyFour; is = refl; alone = λ b. refl }
plain_special n w = record { h = item_head.Simple n; is = refl; alone = λ b. refl }

plain_head : (n : ℕ) (w : IntegerWidth) (major : ℕ) → major ≤ 7 → major ≢ 2 → major ≢ 3 → Plain major n w
unfolding head_of
plain_head n w major le no_bytes no_text =
    at_majors (λ m. m ≢ 2 → m ≢ 3 → Plain m n w)
    (λ a b. record { h = item_head.Integer n w; is = refl; alone = λ b. refl })
    (λ a b. record { h = item_head.Negative n w; is = refl; alone = λ b. refl }) (λ a b. absurd (a refl))
    (λ a b. absurd (b refl)) (λ a b. record { h = item_head.Array (Number n w); is = refl; alone = λ b. refl })
    (λ a b. record { h = item_head.Map (Number n w); is = refl; alone = λ b. refl })
    (λ a b. record { h = item_head.Tag n w; is = refl; alone = λ b. refl }) (λ a b. plain_special n w) major le
    no_bytes no_text

byte_before : (first : ℕ) (b : List ℕ) → first < 256 → IsBytes b → IsBytes (first ∷ b)
byte_before first b byte fits zero = byte
byte_before first b byte fits (suc i) = fits i

-- strict heads after the bytes of such a number are strict heads with it
with_number : (first k : ℕ) (b after : List ℕ) → first < 256 → IsBytes b → ¬ (LongSimple (first ∷ b))
    → first / 32 ≢ 2 → first / 32 ≢ 3 → IsNumberLen (first % 32) k → k ≤ length b → after ≡ drop k b
    → StrictHeads after → StrictHeads (first ∷ b)
unfolding read_head
with_number first k b after byte bytes plain no_bytes no_text len long is s =
    let fits = byte_before first b byte bytes in
    let Number = number_there (first % 32) k b len long in
    let head = plain_head Number.0 Number.1 (first / 32) (omega (arith, byte)) no_bytes no_text in
    with_head (first ∷ b) (drop k b) after head.h fits plain (rw (Number.2, head.is) refl)
    (is ∙ sym (head.alone (drop k b))) s

-- ---- a first byte that says what follows it

-- no other byte than 0xf8 begins such a value
not_long : (first : ℕ) (b : List ℕ) → first ≢ 0xf8 → ¬ (LongSimple (first ∷ b))
not_long first [] other long = absurd long
not_long first (n ∷ b) other long = other long.0

string_kind : (first : ℕ) → BeginsString first → (kind : StringKind) × (first / 32 ≡ major_of kind)
string_kind first (inl is) = (Bytes, is)
string_kind first (inr is) = (Text, is)

-- the head of a short string takes one byte
short_string : (kind : StringKind) (first : ℕ) (b : List ℕ) → first / 32 ≡ major_of kind → first % 32 < 24
    → read_head (first ∷ b) ≡ Ok (item_head.String kind (Number (first % 32) Zero), b)
unfolding read_head
short_string kind first b major short =
    elim (info_way (first % 32) b) [
      | in_byte lt reads ↦ rw (reads, major, string_head kind (Number (first % 32) Zero)) refl
      | in_bytes j w width way reads ↦ absurd (omega (arith, short, way.is))
      | no_number other reads ↦ absurd (omega (arith, short, other))
      | no_meaning least other reads ↦ absurd (omega (arith, short, least))
    ]

-- strict heads after such bytes are strict heads with them
pub with_body : (first k : ℕ) (b after : List ℕ) → first < 256 → IsBytes b → IsBodyLen first k → k ≤ length b
    → after ≡ drop k b → StrictHeads after → StrictHeads (first ∷ b)
with_body first k b after byte bytes (other, inl is) long rest s =
    with_number first k b after byte bytes (not_long first b other) (λ e. is.0 (inl e)) (λ e. is.0 (inr e)) is.1 long
    rest s
with_body first k b after byte bytes (other, inr is) long rest s =
    let kind = string_kind first is.0 in
    with_head (first ∷ b) b after (item_head.String kind.0 (Number (first % 32) Zero))
    (byte_before first b byte bytes) (not_long first b other) (short_string kind.0 first b kind.1 is.1)
    (rest ∙ ap (λ (n : ℕ). drop n b) is.2) s

pub with_none : (b : List ℕ) → length b ≡ 0 → StrictHeads b
with_none [] e = no_head
with_none (first ∷ b) e =
    let wrong : ⊥ = omega (arith, e) in
    absurd wrong

-- ---- the item that all of the bytes are

either_strict : (b : List ℕ) (i : Item) → IsItem b i → NoLongSimple b ⊎ StrictHeads b → IsStrictItem b i
either_strict b i is (inl none) = plainly_spelled 1 b i is none
either_strict b i is (inr heads) = strictly_spelled 1 b i is heads

pub strict_is : (b : List ℕ) (i : Item) (n : ℕ) → BeginsWithItem b i n → length b ≤ n
    → NoLongSimple b ⊎ StrictHeads b → IsItem b i × (b ≡ encoded i)
strict_is b i n begins long s =
    let all : take n b ≡ b = ap (λ (k : ℕ). take k b) (omega (arith, begins.1)) ∙ take-length b in
    let is : IsItem b i = subst (λ (x : List ℕ). IsItem x i) all begins.2 in
    (is, strict_only 1 b i (either_strict b i is s))
