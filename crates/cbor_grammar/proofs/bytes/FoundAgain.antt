-- If bytes encode an item (`Spells`), `read_item` returns this item from them, whatever bytes follow, and
-- `counted_item` counts its `item_turns`. The first byte of an item is no break.
use Rattle.std.proofs.Common.{◌≡◌, ◌≢◌, ℕ, zero, suc, ◌+◌, ◌%◌, ◌<◌, ◌≤◌, List, [], ◌∷◌, ◌++◌, length, Option, Some}
use Rattle.std.proofs.Common.{None, Ok, inl, inr, refl, sym, ap, subst, ◌∙◌, append_assoc, arith}
use Rattle.std.specs.Int.{w16, w32, w64, to_be_bytes}
use Rattle.std.proofs.lemmas.Bool.{ne_eqb}
use Rattle.cbor_grammar.specs.declared.width.IntegerWidth.{IntegerWidth}
use Rattle.cbor_grammar.specs.declared.width.IntegerWidth.TheVariants.{Zero, Eight, Sixteen, ThirtyTwo, SixtyFour}
use Rattle.cbor_grammar.specs.declared.width.FloatWidth.TheVariants as float_width
use Rattle.cbor_grammar.specs.declared.argument.Argument.{Argument}
use Rattle.cbor_grammar.specs.declared.argument.Argument.TheVariants.{Number, Indefinite}
use Rattle.cbor_grammar.specs.Item as spec
use Rattle.cbor_grammar.specs.Item.{Chunk, Atom, integer, negative, string, chunked_string, float, simple, Item, atom}
use Rattle.cbor_grammar.specs.Item.{array, tagged, Items, no_items, item, Pairs, no_pairs, pair, item_count, pair_count}
use Rattle.cbor_grammar.specs.declared.head.ItemHead.TheVariants as item_head
use Rattle.cbor_grammar.specs.declared.head.ItemHead.{ItemHead}
use Rattle.cbor_grammar.specs.Head.{head, opening, break_byte, HeadThen}
use Rattle.cbor_grammar.specs.WellFormed.{deepest}
use Rattle.cbor_grammar.specs.declared.strings.StringKind.{StringKind}
use Rattle.cbor_grammar.specs.declared.strings.StringKind.TheVariants.{Bytes, Text}
use Rattle.cbor_grammar.specs.StringKind.{major_of}
use Rattle.cbor_grammar.specs.Bytes.{any, SpellsAtom, ChunkThen, MembersThen, Spells, SpellsItems, SpellsPairs}
use Rattle.cbor_grammar.specs.Turns.{item_turns, items_turns, pairs_turns}
use Rattle.cbor_grammar.specs.Reading.{◌>>=◌, Counted, later, go_on, ◌>>-◌, head_of, read_head, joined, joined_pairs}
use Rattle.cbor_grammar.specs.Reading.{Frame, items_in, pairs_in, value_of, tag_of, tagged_with, opened, one_less}
use Rattle.cbor_grammar.specs.Reading.{count_width, put, after_break, after_members, after_end, read_parts, read_body}
use Rattle.cbor_grammar.specs.Reading.{counted_item, read_item}
use Rattle.cbor_grammar.proofs.bytes.Heads as heads
use Rattle.cbor_grammar.proofs.bytes.Heads.{head_append, head_again, byte_of, ArgumentThen}
use Rattle.cbor_grammar.proofs.bytes.Chunks.{content_again, chunks_again, chunks_append}
use Rattle.cbor_grammar.proofs.bytes.Steps.{later_later, later_none, Shortens, parts_end, parts_more, item_shortens}
use Rattle.cbor_grammar.proofs.bytes.Frames.{and_more, and_none}
use Rattle.cbor_grammar.proofs.bytes.Found.{items_append, pairs_append}

pub kind_major : (kind : StringKind) → major_of kind ≤ 3
kind_major Bytes = omega arith
kind_major Text = omega arith

pub string_head : (kind : StringKind) (a : Argument) → head_of (major_of kind) a ≡ Ok (item_head.String kind a)
unfolding head_of
string_head Bytes a = refl
string_head Text a = refl

-- an item's first byte is no break
pub record Begins (x : List ℕ) : Type 0 where
  pub first : ℕ
  pub tail : List ℕ
  pub parts : x ≡ first ∷ tail
  pub no_break : first ≢ break_byte

head_begins : (major n : ℕ) (w : IntegerWidth) (x : List ℕ) (Rest : List ℕ → Type 0) → HeadThen major n w x Rest
    → Begins x
head_begins major n w x Rest h =
    let o = heads.opened major n w x h.1 (h.0, h.1, h.2, refl) in
    record {
      first = o.first;
      tail = o.tail;
      parts = o.parts;
      no_break = λ is. let wrong : 255 % 32 < 28 =
          subst (λ (k : ℕ). k % 32 < 28) is o.bits_are in omega arith;
    }

byte_begins : (first : ℕ) (tail x : List ℕ) → x ≡ first ∷ tail → first < 255 → Begins x
byte_begins first tail x parts lt = record { first = first; tail = tail; parts = parts; no_break = λ is. omega arith }

atom_begins : (x : List ℕ) (a : Atom) → SpellsAtom any x a → Begins x
atom_begins x (integer n w) h = head_begins 0 n w x _ h
atom_begins x (negative n w) h = head_begins 1 n w x _ h
atom_begins x (string kind c) h = head_begins (major_of kind) (length c.bytes) c.width x _ h.1
atom_begins x (chunked_string kind cs) h = byte_begins (opening (major_of kind)) h.0 x h.1
    (omega (arith, kind_major kind))
atom_begins x (float bits float_width.Unknown) h = absurd h
atom_begins x (float bits float_width.Sixteen) h = byte_begins 249 (to_be_bytes w16 bits) x h.1 (omega arith)
atom_begins x (float bits float_width.ThirtyTwo) h = byte_begins 250 (to_be_bytes w32 bits) x h.1 (omega arith)
atom_begins x (float bits float_width.SixtyFour) h = byte_begins 251 (to_be_bytes w64 bits) x h.1 (omega arith)
atom_begins x (simple n) (inl h) = byte_begins (224 + n) [] x h.1 (omega (arith, h.0))
atom_begins x (simple n) (inr h) = byte_begins 248 (n ∷ []) x h.1 (omega arith)

pub spelled_begins : (level : ℕ) (x : List ℕ) (i : Item) → Spells any level x i → Begins x
spelled_begins level x (atom a) h = atom_begins x a h.1
spelled_begins level x (array is (Some w)) h = head_begins 4 (item_count is) w x _ h.1
spelled_begins level x (array is None) h = byte_begins 159 h.1.0 x h.1.1 (omega arith)
spelled_begins level x (spec.map ps (Some w)) h = head_begins 5 (pair_count ps) w x _ h.1
spelled_begins level x (spec.map ps None) h = byte_begins 191 h.1.0 x h.1.1 (omega arith)
spelled_begins level x (tagged t w i) h = head_begins 6 t w x _ h.1

pub spelled_level : (level : ℕ) (x : List ℕ) (i : Item) → Spells any level x i → level ≤ deepest
spelled_level level x (atom a) h = h.0
spelled_level level x (array is w) h = h.0
spelled_level level x (spec.map ps w) h = h.0
spelled_level level x (tagged t w i) h = h.0

pub no_break_at : (x rest : List ℕ) → Begins x → after_break (x ++ rest) ≡ None
no_break_at x rest s = ap (λ (y : List ℕ). after_break (y ++ rest)) s.parts
    ∙ rw (ne_eqb s.first break_byte s.no_break) refl

-- ---- the parts of an open container

-- each spelled item is read again, in its turns
abbrev pub FindsAgain : ℕ → (List ℕ → Counted Item) → Type 0
FindsAgain level read = (x : List ℕ) (i : Item) (rest : List ℕ) → Spells any level x i
    → read (x ++ rest) ≡ (item_turns i, Ok (i, rest))

abbrev one_more : Argument → Argument
one_more (Number n w) = Number (suc n) w
one_more Indefinite = Indefinite

and_one_more : (k : ℕ) (a : Argument) → and_more (suc k) a ≡ one_more (and_more k a)
and_one_more k (Number n w) = let e : suc k + n ≡ suc (k + n) = omega arith in ap (λ m. Number m w) e
and_one_more k Indefinite = refl

less_more : (a : Argument) → one_less (one_more a) ≡ a
less_more (Number n w) = refl
less_more Indefinite = refl

-- where one more is to come, a container does not end before it
more_open : (a : Argument) (x rest : List ℕ) → Begins x → after_members (one_more a) (x ++ rest) ≡ None
more_open (Number n w) x rest s = refl
more_open Indefinite x rest s = no_break_at x rest s

pub joined-none : (is : Items) → joined is no_items ≡ is
joined-none no_items = refl
joined-none (item i is) = ap (item i) (joined-none is)

pub joined_pairs-none : (ps : Pairs) → joined_pairs ps no_pairs ≡ ps
joined_pairs-none no_pairs = refl
joined_pairs-none (pair k v ps) = ap (pair k v) (joined_pairs-none ps)

pub joined_one : (is : Items) (i : Item) (js : Items) → joined (joined is (item i no_items)) js ≡ joined is (item i js)
joined_one no_items i js = refl
joined_one (item j is) i js = ap (item j) (joined_one is i js)

joined_pair : (ps : Pairs) (k v : Item) (qs : Pairs)
    → joined_pairs (joined_pairs ps (pair k v no_pairs)) qs ≡ joined_pairs ps (pair k v qs)
joined_pair no_pairs k v qs = refl
joined_pair (pair j u ps) k v qs = ap (pair j u) (joined_pair ps k v qs)

-- the argument of a container's head
abbrev pub argument_of : Option IntegerWidth → ℕ → Argument
argument_of (Some w) n = Number n w
argument_of None n = Indefinite

module _ (level : ℕ) (read : List ℕ → Counted Item) (again : FindsAgain level read) (short : Shortens read) where
  -- one part
  pub part_again : (f : Frame) (x rest : List ℕ) (i : Item) → Spells any level x i → after_end f (x ++ rest) ≡ None
      → read_parts read f (x ++ rest) ≡ later (item_turns i) (read_parts read (put f i) rest)
  part_again f x rest i s none = parts_more read short f (x ++ rest) none
      ∙ ap (λ c. c >>- λ j. read_parts read (put f j.0) j.1) (again x i rest s)

  items_again : (held is : Items) (a : Argument) (b end : List ℕ) → SpellsItems any level b is end
      → read_parts read (items_in held (and_more (item_count is) a)) b
      ≡ later (items_turns is) (read_parts read (items_in (joined held is) a) end)
  items_again held no_items a b end h =
      let same : items_in held (and_more 0 a) ≡ items_in (joined held no_items) a =
      ap (λ c. items_in held c) (sym (and_none a)) ∙ ap (λ is. items_in is a) (sym (joined-none held)) in
      ap (read_parts read (items_in held (and_more 0 a))) h ∙ ap (λ f. read_parts read f end) same
      ∙ sym (later_none (read_parts read (items_in (joined held no_items) a) end))
  items_again held (item i is) a b end h =
      let c : Argument = and_more (item_count is) a in
      let more : Items = joined held (item i no_items) in
      ap (λ d. read_parts read (items_in held d) b) (and_one_more (item_count is) a)
      ∙ ap (read_parts read (items_in held (one_more c))) h.2
      ∙ part_again (items_in held (one_more c)) h.0 h.1 i h.3 (more_open c h.0 h.1 (spelled_begins level h.0 i h.3))
      ∙ ap (λ d. later (item_turns i) (read_parts read (items_in more d) h.1)) (less_more c)
      ∙ ap (later (item_turns i)) (items_again more is a h.1 end h.4)
      ∙ later_later (item_turns i) (items_turns is) (read_parts read (items_in (joined more is) a) end)
      ∙ ap (λ js. later (items_turns (item i is)) (read_parts read (items_in js a) end)) (joined_one held i is)

  pairs_again : (held ps : Pairs) (a : Argument) (b end : List ℕ) → SpellsPairs any level b ps end
      → read_parts read (pairs_in held (and_more (pair_count ps) a)) b
      ≡ later (pairs_turns ps) (read_parts read (pairs_in (joined_pairs held ps) a) end)
  pairs_again held no_pairs a b end h =
      let same : pairs_in held (and_more 0 a) ≡ pairs_in (joined_pairs held no_pairs) a =
      ap (λ c. pairs_in held c) (sym (and_none a)) ∙ ap (λ ps. pairs_in ps a) (sym (joined_pairs-none held)) in
      ap (read_parts read (pairs_in held (and_more 0 a))) h ∙ ap (λ f. read_parts read f end) same
      ∙ sym (later_none (read_parts read (pairs_in (joined_pairs held no_pairs) a) end))
  pairs_again held (pair k v ps) a b end h =
      let c : Argument = and_more (pair_count ps) a in
      let more : Pairs = joined_pairs held (pair k v no_pairs) in
      let others : Counted Item = read_parts read (pairs_in (joined_pairs more ps) a) end in
      ap (λ d. read_parts read (pairs_in held d) b) (and_one_more (pair_count ps) a)
      ∙ ap (read_parts read (pairs_in held (one_more c))) h.3
      ∙ part_again (pairs_in held (one_more c)) h.0 (h.1 ++ h.2) k h.4
      (more_open c h.0 (h.1 ++ h.2) (spelled_begins level h.0 k h.4))
      ∙ ap (λ d. later (item_turns k) (read_parts read (value_of held k d) (h.1 ++ h.2))) (less_more c)
      ∙ ap (later (item_turns k)) (part_again (value_of held k c) h.1 h.2 v h.5 refl
      ∙ ap (later (item_turns v)) (pairs_again more ps a h.2 end h.6)
      ∙ later_later (item_turns v) (pairs_turns ps) others)
      ∙ later_later (item_turns k) (item_turns v + pairs_turns ps) others
      ∙ ap (λ qs. later (pairs_turns (pair k v ps)) (read_parts read (pairs_in qs a) end)) (joined_pair held k v ps)

  -- an array or a map, from after its head
  members_again : (major n turns : ℕ) (w : Option IntegerWidth) (x rest : List ℕ) (Members : List ℕ → List ℕ → Type 0)
      (before after : Argument → Frame) (made : Option IntegerWidth → Item) → MembersThen major n w x Members
      → ((b end more : List ℕ) → Members b end → Members (b ++ more) (end ++ more))
      → ((a : Argument) (b end : List ℕ) → Members b end
      → read_parts read (before (and_more n a)) b ≡ later turns (read_parts read (after a) end))
      → ((a : Argument) (end over : List ℕ) → after_members a end ≡ Some over
      → read_parts read (after a) end ≡ (1, Ok (made (count_width a), over)))
      → (r : List ℕ) × ArgumentThen major (argument_of w n) (x ++ rest) r
      × (read_parts read (before (argument_of w n)) r ≡ (turns + 1, Ok (made w, rest)))
  members_again major n turns (Some w) x rest Members before after made h append many ends =
      let g = head_append major n w x rest _ (λ r. Members r rest) h (λ r s. append r [] rest s) in
      let all : Number n w ≡ and_more n (Number 0 w) =
      (let e : n ≡ n + 0 = omega arith in ap (λ m. Number m w) e) in (
        g.1,
        (g.0, g.1, g.2, refl),
        ap (λ a. read_parts read (before a) g.1) all ∙ many (Number 0 w) g.1 rest g.3
            ∙ ap (later turns) (ends (Number 0 w) rest rest refl),
      )
  members_again major n turns None x rest Members before after made h append many ends =
      let r : List ℕ = h.0 ++ rest in (
        r,
        ap (λ (y : List ℕ). y ++ rest) h.1,
        many Indefinite r (break_byte ∷ rest) (append h.0 (break_byte ∷ []) rest h.2)
            ∙ ap (later turns) (ends Indefinite (break_byte ∷ rest) rest refl),
      )

-- ---- items

-- a head with the bytes after the item
pub head_behind : (major n : ℕ) (w : IntegerWidth) (x rest : List ℕ) → HeadThen major n w x (λ r. r ≡ [])
    → HeadThen major n w (x ++ rest) (λ r. r ≡ rest)
head_behind major n w x rest h = head_append major n w x rest (λ r. r ≡ []) (λ r. r ≡ rest) h
    (λ r e. ap (λ (y : List ℕ). y ++ rest) e)

-- a string's head with the content and the bytes after it
string_behind : (kind : StringKind) (x rest : List ℕ) (c : Chunk) → ChunkThen kind c x (λ r. r ≡ [])
    → HeadThen (major_of kind) (length c.bytes) c.width (x ++ rest) (λ r. r ≡ c.bytes ++ rest)
string_behind kind x rest c h =
    head_append (major_of kind) (length c.bytes) c.width x rest _ (λ r. r ≡ c.bytes ++ rest) h.1
    (λ r s. ap (λ (y : List ℕ). y ++ rest) s.1 ∙ append_assoc c.bytes s.0 rest
    ∙ ap (λ (y : List ℕ). c.bytes ++ (y ++ rest)) s.2)

-- an item by its head and what is after it
abbrev read_whole : (List ℕ → Counted Item) → List ℕ → Counted Item
read_whole read b = (1, read_head b) >>- λ h. read_body read (opened h.0) h.0 h.1

module _ (level : ℕ) (read : List ℕ → Counted Item) (again : FindsAgain (level + 1) read) (short : Shortens read) where
  -- what is read after a head
  after_head : (b r rest : List ℕ) (h : ItemHead) (t : ℕ) (i : Item) → read_head b ≡ Ok (h, r)
      → read_body read (opened h) h r ≡ (t, Ok (i, rest)) → 1 + t ≡ item_turns i
      → read_whole read b ≡ (item_turns i, Ok (i, rest))
  after_head b r rest h t i head body turns =
      ap (λ q. go_on 1 q (λ h. read_body read (opened h.0) h.0 h.1)) head ∙ ap (later 1) body
      ∙ ap (λ n. (n, Ok (i, rest))) turns

  -- a number alone
  number_again : (major n : ℕ) (w : IntegerWidth) (x rest : List ℕ) (h : ItemHead) (i : Item) → major ≤ 7
      → head_of major (Number n w) ≡ Ok h → read_body read (opened h) h rest ≡ (0, Ok (i, rest)) → item_turns i ≡ 1
      → HeadThen major n w (x ++ rest) (λ r. r ≡ rest) → read_whole read (x ++ rest) ≡ (item_turns i, Ok (i, rest))
  number_again major n w x rest h i le is body turns spelled =
      after_head (x ++ rest) rest rest h 0 i (head_again major (Number n w) h (x ++ rest) rest le spelled is) body
      (sym turns)

  pub body_again : (x : List ℕ) (i : Item) (rest : List ℕ) → Spells any level x i
      → read_whole read (x ++ rest) ≡ (item_turns i, Ok (i, rest))
  unfolding head_of
  body_again x (atom (integer n w)) rest h =
      number_again 0 n w x rest (item_head.Integer n w) (atom (integer n w)) (omega arith) refl refl refl
      (head_behind 0 n w x rest h.1)
  body_again x (atom (negative n w)) rest h =
      number_again 1 n w x rest (item_head.Negative n w) (atom (negative n w)) (omega arith) refl refl refl
      (head_behind 1 n w x rest h.1)
  body_again x (atom (string kind c)) rest h =
      let a : Argument = Number (length c.bytes) c.width in
      after_head (x ++ rest) (c.bytes ++ rest) rest (item_head.String kind a) 0 (atom (string kind c))
      (head_again (major_of kind) a (item_head.String kind a) (x ++ rest) (c.bytes ++ rest)
      (omega (arith, kind_major kind)) (string_behind kind x rest c h.1) (string_head kind a))
      (ap (λ r. (0, r >>= λ c. Ok (atom (string kind c.0), c.1))) (content_again kind c rest h.1.0)) refl
  body_again x (atom (chunked_string kind cs)) rest h =
      let r : List ℕ = h.1.0 ++ rest in
      let sum : 1 + (length cs + 1) ≡ 2 + length cs = omega arith in
      let chunks = chunks_again (length r) kind r rest cs (omega arith)
      (chunks_append kind cs h.1.0 (break_byte ∷ []) rest h.1.2) in
      after_head (x ++ rest) r rest (item_head.String kind Indefinite) (length cs + 1) (atom (chunked_string kind cs))
      (head_again (major_of kind) Indefinite (item_head.String kind Indefinite) (x ++ rest) r
      (omega (arith, kind_major kind)) (ap (λ (y : List ℕ). y ++ rest) h.1.1) (string_head kind Indefinite))
      (ap (λ c. c >>- λ cs. (0, Ok (atom (chunked_string kind cs.0), cs.1))) chunks
      ∙ ap (λ n. (n, Ok (atom (chunked_string kind cs), rest)))
      (let e : length cs + 1 + 0 ≡ length cs + 1 = omega arith in e))
      sum
  body_again x (atom (float bits float_width.Unknown)) rest h = absurd h.1
  body_again x (atom (float bits float_width.Sixteen)) rest h =
      number_again 7 bits Sixteen x rest (item_head.Float bits float_width.Sixteen)
      (atom (float bits float_width.Sixteen)) (omega arith) refl refl refl
      (h.1.0, rest, ap (λ (y : List ℕ). y ++ rest) h.1.1, refl)
  body_again x (atom (float bits float_width.ThirtyTwo)) rest h =
      number_again 7 bits ThirtyTwo x rest (item_head.Float bits float_width.ThirtyTwo)
      (atom (float bits float_width.ThirtyTwo)) (omega arith) refl refl refl
      (h.1.0, rest, ap (λ (y : List ℕ). y ++ rest) h.1.1, refl)
  body_again x (atom (float bits float_width.SixtyFour)) rest h =
      number_again 7 bits SixtyFour x rest (item_head.Float bits float_width.SixtyFour)
      (atom (float bits float_width.SixtyFour)) (omega arith) refl refl refl
      (h.1.0, rest, ap (λ (y : List ℕ). y ++ rest) h.1.1, refl)
  body_again x (atom (simple n)) rest (le, inl h) =
      number_again 7 n Zero x rest (item_head.Simple n) (atom (simple n)) (omega arith) refl refl refl
      (h.0, rest, ap (λ (y : List ℕ). y ++ rest) h.1, refl)
  body_again x (atom (simple n)) rest (le, inr h) =
      let is : x ++ rest ≡ head 7 n Eight ++ rest =
      ap (λ (y : List ℕ). y ++ rest) (h.1 ∙ ap (λ (y : List ℕ). 248 ∷ y) (sym (byte_of n h.0))) in
      number_again 7 n Eight x rest (item_head.Simple n) (atom (simple n)) (omega arith) refl refl refl
      (h.0, rest, is, refl)
  body_again x (array is w) rest h =
      let n : ℕ = item_count is in
      let g = members_again (level + 1) read again short 4 n (items_turns is) w x rest
      (λ b end. SpellsItems any (level + 1) b is end) (items_in no_items) (items_in is) (array is) h.1
      (λ b end more s. items_append (level + 1) is b end more s)
      (λ a b end s. items_again (level + 1) read again short no_items is a b end s)
      (λ a end over e. parts_end read short (items_in is a) end over (array is (count_width a)) refl e) in
      let sum : 1 + (items_turns is + 1) ≡ 2 + items_turns is = omega arith in
      after_head (x ++ rest) g.0 rest (item_head.Array (argument_of w n)) (items_turns is + 1) (array is w)
      (head_again 4 (argument_of w n) (item_head.Array (argument_of w n)) (x ++ rest) g.0 (omega arith) g.1 refl)
      g.2 sum
  body_again x (spec.map ps w) rest h =
      let n : ℕ = pair_count ps in
      let g = members_again (level + 1) read again short 5 n (pairs_turns ps) w x rest
      (λ b end. SpellsPairs any (level + 1) b ps end) (pairs_in no_pairs) (pairs_in ps) (spec.map ps) h.1
      (λ b end more s. pairs_append (level + 1) ps b end more s)
      (λ a b end s. pairs_again (level + 1) read again short no_pairs ps a b end s)
      (λ a end over e. parts_end read short (pairs_in ps a) end over (spec.map ps (count_width a)) refl e) in
      let sum : 1 + (pairs_turns ps + 1) ≡ 2 + pairs_turns ps = omega arith in
      after_head (x ++ rest) g.0 rest (item_head.Map (argument_of w n)) (pairs_turns ps + 1) (spec.map ps w)
      (head_again 5 (argument_of w n) (item_head.Map (argument_of w n)) (x ++ rest) g.0 (omega arith) g.1 refl) g.2 sum
  body_again x (tagged t w i) rest h =
      let g = head_append 6 t w x rest (λ r. r ≡ h.1.1) (λ r. r ≡ h.1.1 ++ rest) (h.1.0, h.1.1, h.1.2, refl)
      (λ r e. ap (λ (y : List ℕ). y ++ rest) e) in
      let sum : 1 + (item_turns i + 1) ≡ 2 + item_turns i = omega arith in
      after_head (x ++ rest) (h.1.1 ++ rest) rest (item_head.Tag t w) (item_turns i + 1) (tagged t w i)
      (head_again 6 (Number t w) (item_head.Tag t w) (x ++ rest) (h.1.1 ++ rest) (omega arith) g refl)
      (part_again (level + 1) read again short (tag_of t w) h.1.1 rest i h.1.3 refl
      ∙ ap (later (item_turns i)) (parts_end read short (tagged_with t w i) rest rest (tagged t w i) refl refl)) sum

pub counted_again : (level left : ℕ) (x : List ℕ) (i : Item) (rest : List ℕ) → level + left ≡ 129 → Spells any level x i
    → counted_item left (x ++ rest) ≡ (item_turns i, Ok (i, rest))
unfolding counted_item
counted_again level zero x i rest sum h = absurd (omega (arith, spelled_level level x i h))
counted_again level (suc left) x i rest sum h =
    body_again level (counted_item left) (λ y j r s. counted_again (level + 1) left y j r (omega arith) s)
    (item_shortens left) x i rest h

pub item_again : (level left : ℕ) (x : List ℕ) (i : Item) (rest : List ℕ) → level + left ≡ 129 → Spells any level x i
    → read_item left (x ++ rest) ≡ Ok (i, rest)
item_again level left x i rest sum h = ap (λ (c : Counted Item). c.1) (counted_again level left x i rest sum h)
