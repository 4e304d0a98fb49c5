-- The part of a container that a byte is in (`IsPartOf`): there is at most one, and the loop over the parts in
-- `part_from` finds it or shows that there is none.
use Rattle.std.proofs.Common.{◌≡◌, ℕ, suc, ◌+◌, ◌*◌, ◌<◌, ◌≤◌, List, ◌∷◌, length, Some, None, Ok, Err, refl}
use Rattle.std.proofs.Common.{sym, ap, subst, ◌∙◌, inl, inr, arith}
use Rattle.cbor_grammar.specs.declared.argument.Argument.{Argument}
use Rattle.cbor_grammar.specs.declared.argument.Argument.TheVariants.{Number, Indefinite}
use Rattle.cbor_grammar.specs.declared.error.Error.TheVariants as refusal
use Rattle.cbor_grammar.specs.Item.{Item}
use Rattle.cbor_grammar.specs.Head.{break_byte}
use Rattle.cbor_grammar.specs.declared.head.ItemHead.{ItemHead}
use Rattle.cbor_grammar.specs.Reading.{Read, read_argument, head_of as head_of_major, read_head, read_item, after_break}
use Rattle.cbor_grammar.specs.WellFormed.{deepest, levels_left}
use Rattle.cbor_grammar.proofs.bytes.Found.{break_ways}
use Rattle.cbor_grammar.proofs.bytes.Shorter.{item_shorter}
use Rattle.cbor_bytes.proofs.reading.Readings.{no_item}
use Rattle.cbor_trace.specs.declared.open.Open.{Open}
use Rattle.cbor_trace.specs.declared.open.Open.TheVariants.{Array, Key, Value, Tag}
use Rattle.cbor_trace.specs.declared.part.Part.{Part}
use Rattle.cbor_trace.specs.Around.{head_of, parts_before, MembersGoOn, PairGoesOn, GoesOn, EndsBehind}
use Rattle.cbor_trace.specs.Around.{AfterItems, KeyBegins, IsPartOf}
use Rattle.cbor_trace.proofs.Values.{one_value, same_rest, values_leave, here_or_later, same_place}
use Rattle.cbor_trace.specs.mirror.Steps.{opened_by, next_of}

-- ---- breaks

break_head : (b : List ℕ) → read_head (break_byte ∷ b) ≡ Err refusal.Head
unfolding read_head read_argument head_of_major
break_head b = refl

-- no item begins with a break
pub no_break : (left : ℕ) (b : List ℕ) (x : Item × List ℕ) → read_item left b ≡ Ok x → after_break b ≡ None
no_break left b x e =
    elim (break_ways b) [
      | inl at ↦ absurd (no_item left b refusal.Head x (ap read_head at.1 ∙ break_head at.0) e)
      | inr none ↦ none
    ]

-- ---- which part a container is open before

pub opened_head : (h : ItemHead) (o : Open) → opened_by h ≡ Some o → head_of o ≡ h
opened_head h o e = grind (arith, e)

pub same_open : (total left : ℕ) (inner : List ℕ) (o p : Open) → head_of o ≡ head_of p
    → parts_before o ≡ parts_before p → KeyBegins total left inner o → KeyBegins total left inner p → o ≡ p
same_open total left inner (Array c i) (Array d j) e k x y = cc
same_open total left inner (Key c i) (Key d j) e k x y =
    let same : i ≡ j = omega (arith, k) in
    cc
same_open total left inner (Value c i n) (Value d j m) e k x y =
    let same : i ≡ j = omega (arith, k) in
    let t = same_rest (read_item left) (2 * i) inner x.0 y.0 x.1
    (subst (λ (h : ℕ). AfterItems left (2 * h) inner y.0) (sym same) y.1) in
    let len : length x.0 ≡ length y.0 = ap length t in
    let key : n ≡ m = omega (arith, x.2, y.2, len) in
    cc
same_open total left inner (Tag n w) (Tag m v) e k x y = cc
same_open total left inner (Key c i) (Value d j m) e k x y = absurd (omega (arith, k))
same_open total left inner (Value c i n) (Key d j) e k x y = absurd (omega (arith, k))
same_open total left inner (Array c i) (Key d j) e k x y = absurd cc
same_open total left inner (Array c i) (Value d j m) e k x y = absurd cc
same_open total left inner (Array c i) (Tag m v) e k x y = absurd cc
same_open total left inner (Key c i) (Array d j) e k x y = absurd cc
same_open total left inner (Key c i) (Tag m v) e k x y = absurd cc
same_open total left inner (Value c i n) (Array d j) e k x y = absurd cc
same_open total left inner (Value c i n) (Tag m v) e k x y = absurd cc
same_open total left inner (Tag n w) (Array d j) e k x y = absurd cc
same_open total left inner (Tag n w) (Key d j) e k x y = absurd cc
same_open total left inner (Tag n w) (Value d j m) e k x y = absurd cc

-- fewer of a count, where an item comes
fewer : (c d : Argument) (i j : ℕ) (r s : List ℕ) → c ≡ d → i ≤ j → after_break r ≡ None → MembersGoOn d j s
    → MembersGoOn c i r
fewer (Number n w) (Number m v) i j r s e le none h =
    let same : n ≡ m = cc in
    omega (arith, same, h)
fewer (Number n w) Indefinite i j r s e le none h = absurd cc
fewer Indefinite d i j r s e le none h = none

less_so : (d : Argument) (j : ℕ) (s : List ℕ) → MembersGoOn d j s → PairGoesOn d j
less_so (Number n w) j s h = h
less_so Indefinite j s h = tt

fewer_than : (c d : Argument) (i j : ℕ) (r : List ℕ) → c ≡ d → i ≤ j → after_break r ≡ None → PairGoesOn d j
    → MembersGoOn c i r
fewer_than (Number n w) (Number m v) i j r e le none h =
    let same : n ≡ m = cc in
    omega (arith, same, h)
fewer_than (Number n w) Indefinite i j r e le none h = absurd cc
fewer_than Indefinite d i j r e le none h = none

-- A container goes on before a part, if it goes on before a later one.
earlier_goes_on : (o p : Open) (r s : List ℕ) → head_of o ≡ head_of p → parts_before o < parts_before p
    → after_break r ≡ None → GoesOn p s → GoesOn o r
earlier_goes_on (Array c i) (Array d j) r s e lt none h =
    let same : c ≡ d = cc in
    fewer c d i j r s same (omega (arith, lt)) none h
earlier_goes_on (Key c i) (Key d j) r s e lt none h =
    let same : c ≡ d = cc in
    fewer c d i j r s same (omega (arith, lt)) none h
earlier_goes_on (Key c i) (Value d j m) r s e lt none h =
    let same : c ≡ d = cc in
    fewer_than c d i j r same (omega (arith, lt)) none h
earlier_goes_on (Value c i n) (Key d j) r s e lt none h =
    let same : c ≡ d = cc in
    less_so c i r (fewer c d i j r s same (omega (arith, lt)) none h)
earlier_goes_on (Value c i n) (Value d j m) r s e lt none h =
    let same : c ≡ d = cc in
    less_so c i r (fewer_than c d i j r same (omega (arith, lt)) none h)
earlier_goes_on (Tag n w) p r s e lt none h = tt
earlier_goes_on (Array c i) (Key d j) r s e lt none h = absurd cc
earlier_goes_on (Array c i) (Value d j m) r s e lt none h = absurd cc
earlier_goes_on (Array c i) (Tag m v) r s e lt none h = absurd cc
earlier_goes_on (Key c i) (Array d j) r s e lt none h = absurd cc
earlier_goes_on (Key c i) (Tag m v) r s e lt none h = absurd cc
earlier_goes_on (Value c i n) (Array d j) r s e lt none h = absurd cc
earlier_goes_on (Value c i n) (Tag m v) r s e lt none h = absurd cc

-- ---- the part at a byte

same_fields : (o r : Open) (m n : ℕ) → o ≡ r → m ≡ n
    → ◌≡◌ {A = Part} (record { «open» = o; start = m }) (record { «open» = r; start = n })
same_fields o r m n e f = cc

same_part : (p q : Part) → p.«open» ≡ q.«open» → p.start ≡ q.start → p ≡ q
same_part p q e f = same_fields p.«open» q.«open» p.start q.start e f

module _ (total level : ℕ) (b : List ℕ) (at : ℕ) where
  -- the bytes from a part on
  passed_at : (p : Part) (h : IsPartOf total level b at p) → total ≤ at + length h.rest
  passed_at p h = omega (arith, h.place, h.from)

  same_read_head : (read : Read ItemHead) (x y : ItemHead) (r s : List ℕ) → read ≡ Ok (x, r) → read ≡ Ok (y, s)
      → (x ≡ y) × (r ≡ s)
  same_read_head read x y r s e f =
      let both = one_value read (x, r) (y, s) e f in
      (ap (λ (t : ItemHead × List ℕ). t.0) both, ap (λ (t : ItemHead × List ℕ). t.1) both)

  -- two containers that the item may be, and what is after their heads
  same_heads : (o p : Open) (r s : List ℕ) → read_head b ≡ Ok (head_of o, r) → read_head b ≡ Ok (head_of p, s)
      → (head_of o ≡ head_of p) × (r ≡ s)
  same_heads o p r s e f = same_read_head (read_head b) (head_of o) (head_of p) r s e f

  -- no part begins before the end of the head
  pub after_head : (h : ItemHead) (inner : List ℕ) (p : Part) → read_head b ≡ Ok (h, inner)
      → IsPartOf total level b at p → total ≤ at + length inner
  after_head h inner p e is =
      let same = same_read_head (read_head b) h (head_of p.«open») inner is.before.inner e is.before.head in
      let len : length inner ≡ length is.before.inner = ap length same.1 in
      let left = levels_left (level + 1) in
      let leaves = values_leave (read_item left) (item_shorter left) (parts_before p.«open») is.before.inner is.rest
      is.before.whole in
      omega (arith, len, leaves, passed_at p is)

  -- The byte is in one part.
  pub one_part : (p q : Part) → IsPartOf total level b at p → IsPartOf total level b at q → p ≡ q
  one_part p q h g =
      let left = levels_left (level + 1) in
      let same = same_heads p.«open» q.«open» h.before.inner g.before.inner h.before.head g.before.head in
      let whole : AfterItems left (parts_before q.«open») h.before.inner g.rest =
      subst (λ (x : List ℕ). AfterItems left (parts_before q.«open») x g.rest) (sym same.1) g.before.whole in
      let key : KeyBegins total left h.before.inner q.«open» =
      subst (λ (x : List ℕ). KeyBegins total left x q.«open») (sym same.1) g.before.key in
      let place = same_place (read_item left) (item_shorter left) total at (parts_before p.«open»)
      (parts_before q.«open») h.before.inner h.rest g.rest h.before.whole whole (passed_at p h) (passed_at q g) h.to
      g.to in
      let opens = same_open total left h.before.inner p.«open» q.«open» same.0 place.0 h.before.key key in
      let len : length h.rest ≡ length g.rest = ap length place.1 in
      let start : p.start ≡ q.start = omega (arith, h.place, g.place, len) in
      same_part p q opens start

-- ---- the loop

-- This many parts are whole and end before the byte, and the rest is in the place of the next.
pub record IsReached (total level : ℕ) (inner : List ℕ) (at : ℕ) (first o : Open) (rest : List ℕ) : Type 0 where
  pub same : head_of o ≡ head_of first
  pub whole : AfterItems (levels_left (level + 1)) (parts_before o) inner rest
  pub key : KeyBegins total (levels_left (level + 1)) inner o
  pub short : parts_before o + length rest ≤ length inner
  pub passed : total ≤ at + length rest

module _ (total level : ℕ) (inner : List ℕ) (at : ℕ) (first : Open) where
  pub start_reached : parts_before first ≡ 0 → total ≤ at + length inner
      → IsReached total level inner at first first inner
  start_reached none passed = record {
    same = refl;
    whole = subst (λ (k : ℕ). AfterItems (levels_left (level + 1)) k inner inner) (sym none) refl;
    key = no_key first none;
    short = omega (arith, none);
    passed = passed;
  }
    where
      no_key : (o : Open) → parts_before o ≡ 0 → KeyBegins total (levels_left (level + 1)) inner o
      no_key (Array c i) e = tt
      no_key (Key c i) e = tt
      no_key (Value c i k) e = absurd (omega (arith, e))
      no_key (Tag n w) e = tt

  -- one part more
  pub step_reached : (o n : Open) (rest after : List ℕ) (i : Item) (start : ℕ)
      → IsReached total level inner at first o rest → read_item (levels_left (level + 1)) rest ≡ Ok (i, after)
      → start + length rest ≡ total → total ≤ at + length after → next_of o start ≡ Some n
      → IsReached total level inner at first n after
  step_reached o n rest after i start r reads place passed next = go o next r
    where
      left : ℕ
      left = levels_left (level + 1)

      shorter : length after < length rest
      shorter = item_shorter left rest i after reads

      more : (k m : ℕ) → m ≡ suc k → AfterItems left k inner rest → AfterItems left m inner after
      more k m e h = subst (λ (j : ℕ). AfterItems left j inner after) (sym e) (rest, i, h, reads)

      go : (p : Open) → next_of p start ≡ Some n → IsReached total level inner at first p rest
          → IsReached total level inner at first n after
      go (Array c k) is h =
          let e : Array c (k + 1) ≡ n = cc in
          subst (λ (x : Open). IsReached total level inner at first x after) e (record {
            same = h.same;
            whole = more k (k + 1) (omega arith) h.whole;
            key = tt;
            short = omega (arith, h.short, shorter);
            passed = passed;
          })
      go (Key c k) is h =
          let e : Value c k start ≡ n = cc in
          subst (λ (x : Open). IsReached total level inner at first x after) e (record {
            same = h.same;
            whole = more (2 * k) (2 * k + 1) (omega arith) h.whole;
            key = (rest, h.whole, place);
            short = omega (arith, h.short, shorter);
            passed = passed;
          })
      go (Value c k m) is h =
          let e : Key c (k + 1) ≡ n = cc in
          subst (λ (x : Open). IsReached total level inner at first x after) e (record {
            same = h.same;
            whole = more (2 * k + 1) (2 * (k + 1)) (omega arith) h.whole;
            key = tt;
            short = omega (arith, h.short, shorter);
            passed = passed;
          })
      go (Tag m w) is h = absurd cc

  -- the part that does not end before the byte
  pub part_reached : (b : List ℕ) (o : Open) (rest : List ℕ) (start : ℕ) → level ≤ deepest
      → read_head b ≡ Ok (head_of first, inner) → IsReached total level inner at first o rest → GoesOn o rest
      → start + length rest ≡ total → EndsBehind total (read_item (levels_left (level + 1))) at rest
      → IsPartOf total level b at (record { «open» = o; start = start })
  part_reached b o rest start levels head r goes_on place to = record {
    rest = rest;
    before = record {
      levels = levels;
      inner = inner;
      head = subst (λ h. read_head b ≡ Ok (h, inner)) (sym r.same) head;
      whole = r.whole;
      goes_on = goes_on;
      key = r.key;
    };
    place = place;
    from = omega (arith, place, r.passed);
    to = to;
  }

  -- where the container ends before the byte, it has no part there
  pub none_reached : (b : List ℕ) (o : Open) (rest : List ℕ) (p : Part)
      → read_head b ≡ Ok (head_of first, inner) → IsReached total level inner at first o rest → ¬ (GoesOn o rest)
      → IsPartOf total level b at p → ⊥
  none_reached b o rest p head r ended h =
      let left = levels_left (level + 1) in
      let its_head : read_head b ≡ Ok (head_of o, inner) =
      subst (λ x. read_head b ≡ Ok (x, inner)) (sym r.same) head in
      let same = same_heads total level b at o p.«open» inner h.before.inner its_head h.before.head in
      let whole : AfterItems left (parts_before p.«open») inner h.rest =
      subst (λ (x : List ℕ). AfterItems left (parts_before p.«open») x h.rest) (sym same.1) h.before.whole in
      let key : KeyBegins total left inner p.«open» =
      subst (λ (x : List ℕ). KeyBegins total left x p.«open») (sym same.1) h.before.key in
      elim (here_or_later (read_item left) (item_shorter left) total at (parts_before o) (parts_before p.«open») inner
      rest h.rest r.whole whole r.passed h.to) [
        | inl here ↦
            let opens = same_open total left inner o p.«open» same.0 here.0 r.key key in
            ended (rw (opens, here.1) h.before.goes_on)
        | inr later ↦
            let none = no_break left rest (later.1, later.2) later.3 in
            ended (earlier_goes_on o p.«open» rest h.rest same.0 later.0 none h.before.goes_on)
      ]
