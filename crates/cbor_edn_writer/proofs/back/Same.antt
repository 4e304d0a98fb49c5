-- For a byte string that EDN shows as the items in it: if the bytes encode an item and pass `is_strict` of
-- `cbor_inside`, `encoded` of that item is these bytes again (`item_same`). If they encode items and pass
-- `is_sequence`, the encodings of these items in order are these bytes (`sequence_same`). None of these items has a
-- simple value from 24 to 31 in it.
use Rattle.std.proofs.Common.{◌≡◌, ℕ, zero, suc, ◌+◌, ◌/◌, ◌%◌, ◌≤◌, Bool, true, false, ◌==◌, ◌&&◌, if◌then◌else◌}
use Rattle.std.proofs.Common.{nat_lt, List, [], ◌∷◌, ◌++◌, length, take, drop, Some, None, Ok, Err, refl, sym}
use Rattle.std.proofs.Common.{ap, subst, ◌∙◌, ◌<◌, arith}
use Rattle.std.specs.Prelude.{nat_le}
use Rattle.std.specs.List.{AllByRecursion}
use Rattle.std.specs.Int.{Width, w8, w16, w32, w64, byte_len, from_be_bytes}
use Rattle.std.proofs.lemmas.Bool.{and_parts, eq-eqb, eqb-true, leb-true, le-ltb, ltb-false}
use Rattle.std.proofs.lemmas.List.{append-nil, append_cancel_right, drop-append-le, length-append, take-append-le}
use Rattle.cbor_grammar.specs.declared.argument.Argument.TheVariants.{Number, Indefinite}
use Rattle.cbor_grammar.specs.declared.error.Error.TheVariants as refusal
use Rattle.cbor_grammar.specs.declared.head.ItemHead.{ItemHead}
use Rattle.cbor_grammar.specs.declared.head.ItemHead.TheVariants as item_head
use Rattle.cbor_grammar.specs.declared.width.IntegerWidth.{IntegerWidth}
use Rattle.cbor_grammar.specs.declared.width.IntegerWidth.TheVariants.{Zero, Eight, Sixteen, ThirtyTwo, SixtyFour}
use Rattle.cbor_grammar.specs.Bytes.{any, Spells, SpellsItems}
use Rattle.cbor_grammar.specs.Embedded.{embedded_at, sequence_at}
use Rattle.cbor_grammar.specs.Head.{break_byte, opening}
use Rattle.cbor_grammar.specs.Item.{Item, Items, array}
use Rattle.cbor_grammar.specs.Reading.{Read, ◌>>=◌, read_number, read_wide, read_argument, head_of, read_head}
use Rattle.cbor_grammar.specs.WellFormed.{deepest, levels_left}
use Rattle.cbor_grammar.specs.Written.{encoded, encoded_items}
use Rattle.cbor_grammar.proofs.bytes.Found.{items_append}
use Rattle.cbor_grammar.proofs.bytes.Heads.{bind_ok, ok_is, cons_is, guard_ok, head_again}
use Rattle.cbor_grammar.proofs.bytes.Laws.{bytes_at}
use Rattle.cbor_grammar.proofs.bytes.Strict.{strict_only}
use Rattle.cbor_grammar.proofs.shared.EmbeddedItems.{embedded_spells, sequence_spells}
use Rattle.cbor_bytes.proofs.bytes.StrictHeads.{strictly_spelled}
use Rattle.cbor_inside.specs.Rule.{is_empty, is_sequence}
use Rattle.cbor_inside.specs.Strict.{after_strict, after_read, after_head, go_on, are_heads, is_strict}
use Rattle.cbor_edn_grammar.specs.Reserved.{NoneReserved, NoneReservedItems}
use Rattle.cbor_edn_writer.proofs.back.Plain.{PlainHeads, no_head, a_break, a_head, are_strict, free_item, free_items}

-- ---- heads with more bytes after them

-- what is read before more bytes, where it is read without them
abbrev Grows : {A : Type 0} → List ℕ → Read A → Read A → Type 0
Grows {A} more read grown = (x : A) (rest : List ℕ) → read ≡ Ok (x, rest) → grown ≡ Ok (x, rest ++ more)

found_grows : {A : Type 0} (x : A) (b more : List ℕ) → Grows more (Ok (x, b)) (Ok (x, b ++ more))
found_grows {A} x b more y rest e = ap (λ (p : A × List ℕ). Ok (p.0, p.1 ++ more)) (ok_is (x, b) (y, rest) e)

test_grows : {A : Type 0} (more : List ℕ) (t : Bool) (r s u v : Read A) → Grows more r u → Grows more s v
    → Grows more (if t then r else s) (if t then u else v)
test_grows more true r s u v first second = first
test_grows more false r s u v first second = second

number_grows : (w : Width) (b more : List ℕ) → Grows more (read_number w b) (read_number w (b ++ more))
number_grows w b more n rest e =
    let k = byte_len w in
    let g = guard_ok (nat_lt (length b) k) refusal.CutShort (from_be_bytes w (take k b), drop k b) (n, rest) e in
    let long : k ≤ length b = ltb-false (length b) k g.0 in
    rw (
      le-ltb (length (b ++ more)) k (omega (arith, length-append b more)),
      take-append-le k b more long,
      drop-append-le k b more long,
    ) (found_grows (from_be_bytes w (take k b)) (drop k b) more n rest (ap (λ (p : ℕ × List ℕ). Ok p) g.1))

wide_grows : (w : Width) (width : IntegerWidth) (b more : List ℕ)
    → Grows more (read_wide w width b) (read_wide w width (b ++ more))
unfolding read_wide
wide_grows w width b more a rest e =
    let n = bind_ok (read_number w b) (λ n. Ok (Number n.0 width, n.1)) (a, rest) e in
    rw (number_grows w b more n.0.0 n.0.1 n.1) (found_grows (Number n.0.0 width) n.0.1 more a rest n.2)

argument_grows : (info : ℕ) (b more : List ℕ) → Grows more (read_argument info b) (read_argument info (b ++ more))
unfolding read_argument
argument_grows info b more =
    test_grows more (nat_lt info 24) _ _ _ _ (found_grows (Number info Zero) b more)
    (test_grows more (info == 24) _ _ _ _ (wide_grows w8 Eight b more)
    (test_grows more (info == 25) _ _ _ _ (wide_grows w16 Sixteen b more)
    (test_grows more (info == 26) _ _ _ _ (wide_grows w32 ThirtyTwo b more)
    (test_grows more (info == 27) _ _ _ _ (wide_grows w64 SixtyFour b more)
    (test_grows more (info == 31) _ _ _ _ (found_grows Indefinite b more) (λ a rest e. absurd cc))))))

head_grows : (b more : List ℕ) → Grows more (read_head b) (read_head (b ++ more))
unfolding read_head
head_grows [] more h rest e = absurd cc
head_grows (first ∷ b) more h rest e =
    let a = bind_ok (read_argument (first % 32) b) (λ a. head_of (first / 32) a.0 >>= λ h. Ok (h, a.1)) (h, rest) e in
    let c = bind_ok (head_of (first / 32) a.0.0) (λ h. Ok (h, a.0.1)) (h, rest) a.2 in
    rw (argument_grows (first % 32) b more a.0.0 a.0.1 a.1, c.1) (found_grows c.0 a.0.1 more h rest c.2)

-- ---- plain heads

if_held : (go : List ℕ → Bool) (t : Bool) (x : List ℕ) → go_on go (if t then Some x else None) ≡ true
    → (t ≡ true) × (go x ≡ true)
if_held go true x is = (refl, is)
if_held go false x is = absurd cc

if_passed : (go : List ℕ → Bool) (t : Bool) (x : List ℕ) → go_on go (if t then None else Some x) ≡ true
    → (t ≡ false) × (go x ≡ true)
if_passed go true x is = absurd cc
if_passed go false x is = (refl, is)

-- no simple value below 32 takes two bytes where that is what was tested
least_of : (first n : ℕ) → ((first == 0xf8) && nat_lt n 32) ≡ false → first ≡ 0xf8 → 32 ≤ n
least_of first n none is =
    ltb-false n 32 (sym (ap (λ (t : Bool). t && nat_lt n 32) (eq-eqb first 0xf8 is)) ∙ none)

module _ (n first : ℕ) (b more : List ℕ)
    (later : (rest : List ℕ) → are_heads n rest ≡ true → PlainHeads (rest ++ more)) where
  with_head : (h : ItemHead) (rest : List ℕ) → read_head (first ∷ b) ≡ Ok (h, rest)
      → go_on (are_heads n) (after_strict first (h, rest)) ≡ true → PlainHeads (first ∷ (b ++ more))
  with_head (item_head.String kind (Number k w)) rest e is =
      let held = if_held (are_heads n) (nat_le k (length rest)) (drop k rest) is in
      let behind : drop k rest ++ more ≡ drop k (rest ++ more) =
      sym (drop-append-le k rest more (leb-true k (length rest) held.0)) in
      a_head (head_grows (first ∷ b) more (item_head.String kind (Number k w)) rest e) tt
      (subst PlainHeads behind (later (drop k rest) held.1))
  with_head (item_head.Simple k) rest e is =
      let passed = if_passed (are_heads n) ((first == 0xf8) && nat_lt k 32) rest is in
      a_head (head_grows (first ∷ b) more (item_head.Simple k) rest e) (least_of first k passed.0)
      (later rest passed.1)
  with_head h rest e is = a_head (head_grows (first ∷ b) more h rest e) tt (later rest is)

  with_read : (read : Read ItemHead) → read_head (first ∷ b) ≡ read
      → go_on (are_heads n) (after_read first read) ≡ true → PlainHeads (first ∷ (b ++ more))
  with_read (Ok (h, rest)) e is = with_head h rest e is
  with_read (Err error) e is = absurd cc

  with_first : (t : Bool) → (first == break_byte) ≡ t
      → go_on (are_heads n) (if t then Some b else after_read first (read_head (first ∷ b))) ≡ true
      → PlainHeads (first ∷ (b ++ more))
  with_first true e is =
      subst (λ (f : ℕ). PlainHeads (f ∷ (b ++ more))) (sym (eqb-true first break_byte e)) (a_break (later b is))
  with_first false e is = with_read (read_head (first ∷ b)) refl is

-- bytes that are this many heads, before such heads
heads_plain : (n : ℕ) (b more : List ℕ) → are_heads n b ≡ true → PlainHeads more → PlainHeads (b ++ more)
unfolding are_heads after_head
heads_plain n [] more is s = s
heads_plain zero (first ∷ b) more is s = absurd cc
heads_plain (suc n) (first ∷ b) more is s =
    with_first n first b more (λ rest holds. heads_plain n rest more holds s) (first == break_byte) refl is

-- ---- items

spelled_same : (level : ℕ) (b : List ℕ) (i : Item) → Spells any level b i → PlainHeads b → b ≡ encoded i
spelled_same level b i spelled s = strict_only level b i (strictly_spelled level b i spelled (are_strict b s))

all_plain : (b : List ℕ) → is_strict b ≡ true → PlainHeads b
all_plain b strict = subst PlainHeads (append-nil b) (heads_plain (length b) b [] strict no_head)

-- the item that the bytes encode is encoded as these bytes
pub item_same : (level left : ℕ) (b : List ℕ) (i : Item) → level + left ≡ 129 → AllByRecursion (λ b. b < 256) b
    → embedded_at left b ≡ Some i → is_strict b ≡ true → (encoded i ≡ b) × NoneReserved i
item_same level left b i levels bytes is strict =
    let s = all_plain b strict in
    let spelled = embedded_spells level left b i levels (bytes_at b bytes) is in
    (sym (spelled_same level b i spelled s), free_item level b i spelled s)

-- Items one after the other are encoded as their bytes: those of an array without its opening byte and its break.
items_same : (level : ℕ) (b : List ℕ) (is : Items) → level ≤ deepest → SpellsItems any (level + 1) b is []
    → is_strict b ≡ true → encoded_items is ≡ b
unfolding head_of
items_same level b is le spelled strict =
    let end : List ℕ = break_byte ∷ [] in
    let listed : List ℕ = opening 4 ∷ (b ++ end) in
    let s : PlainHeads listed =
    a_head {h = item_head.Array Indefinite}
    (head_again 4 Indefinite (item_head.Array Indefinite) listed (b ++ end) (omega arith) refl refl) tt
    (heads_plain (length b) b end strict (a_break no_head)) in
    let same : listed ≡ opening 4 ∷ (encoded_items is ++ end) =
    spelled_same level listed (array is None) (le, (b ++ end, refl, items_append (level + 1) is b [] end spelled)) s in
    sym (append_cancel_right b (encoded_items is) end (cons_is _ _ _ _ same).1)

none_of : (b : List ℕ) → is_empty b ≡ true → b ≡ []
none_of [] is = refl
none_of (first ∷ b) is = absurd cc

-- the items below a byte string at this level, where that many levels are left for them
pub record SameItems (left : ℕ) (b : List ℕ) : Type 0 where
  pub same : encoded_items (sequence_at left b).0 ≡ b
  pub whole : (sequence_at left b).1 ≡ []
  pub none : NoneReservedItems (sequence_at left b).0

sequence_same_at : (level left : ℕ) (b : List ℕ) → level + left ≡ 128 → AllByRecursion (λ b. b < 256) b
    → is_sequence level b ≡ true → is_strict b ≡ true → SameItems left b
sequence_same_at level left b levels bytes is strict =
    let le : level ≤ deepest = omega (arith, levels) in
    let below : level + 1 + left ≡ 129 = omega (arith, levels) in
    let here : levels_left (level + 1) ≡ left = omega (arith, levels) in
    let whole : is_empty (sequence_at (levels_left (level + 1)) b).1 ≡ true =
    (and_parts (nat_le level deepest) (is_empty (sequence_at (levels_left (level + 1)) b).1) is).1 in
    let none : (sequence_at left b).1 ≡ [] =
    none_of (sequence_at left b).1 (subst (λ (n : ℕ). is_empty (sequence_at n b).1 ≡ true) here whole) in
    let read = sequence_spells (level + 1) left below (length b) b (omega arith) (bytes_at b bytes) in
    let spelled : SpellsItems any (level + 1) b (sequence_at left b).0 [] =
    subst (λ (rest : List ℕ). SpellsItems any (level + 1) b (sequence_at left b).0 rest) none read.spelled_so in
    record {
      same = items_same level b (sequence_at left b).0 le spelled strict;
      whole = none;
      none = free_items (level + 1) b (sequence_at left b).0 spelled (all_plain b strict);
    }

-- the same, as it is tested
pub sequence_same : (level : ℕ) (b : List ℕ) → AllByRecursion (λ b. b < 256) b → is_sequence level b ≡ true
    → is_strict b ≡ true → SameItems (levels_left (level + 1)) b
sequence_same level b bytes is strict =
    let both = and_parts (nat_le level deepest) (is_empty (sequence_at (levels_left (level + 1)) b).1) is in
    let le : level ≤ deepest = leb-true level deepest both.0 in
    sequence_same_at level (levels_left (level + 1)) b (omega (arith, le)) bytes is strict
