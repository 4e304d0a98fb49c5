-- For `loss.rt`: whether JSON keeps an item that was read (`IsKept`) is decided by its head, or by its parts if it is
-- an array or a map. If reading stops in a member, a key or a value at something that JSON does not keep, this is the
-- first loss of the whole container (`Stops`), which JSON does not keep either. If it stops at no item, no container is
-- read.
use Rattle.std.proofs.Common.{◌≡◌, ℕ, zero, suc, ◌+◌, ◌-◌, ◌≤◌, List, length, Bool, true, false, Option, Some, None}
use Rattle.std.proofs.Common.{Result, Ok, Err, IfOk, IfErr, IsTrue, ◌<◌, ◌⊎◌}
use Rattle.std.proofs.Common.{inl, inr, if◌then◌else◌, refl, sym, ap, subst, ◌∙◌, arith}
use Rattle.std.proofs.lemmas.Bool.{cases_lt}
use Rattle.cbor_grammar.specs.declared.argument.Argument.{Argument}
use Rattle.cbor_grammar.specs.declared.argument.Argument.TheVariants.{Number, Indefinite}
use Rattle.cbor_grammar.specs.declared.head.ItemHead.{ItemHead}
use Rattle.cbor_grammar.specs.declared.head.ItemHead.TheVariants as head
use Rattle.cbor_grammar.specs.declared.strings.StringKind.TheVariants as kind
use Rattle.cbor_grammar.specs.Item as spec
use Rattle.cbor_grammar.specs.Item.{Chunk, Item, atom, array, Items, no_items, item, item_count, Pairs, no_pairs, pair}
use Rattle.cbor_grammar.specs.Item.{pair_count, parts}
use Rattle.cbor_grammar.specs.Reading.{Read, Counted, Frame, items_in, pairs_in, value_of, tag_of, tagged_with, opened}
use Rattle.cbor_grammar.specs.Reading.{joined, joined_pairs, put, closed}
use Rattle.cbor_grammar.specs.Reading.{close_or, after_members, after_end, parts_from}
use Rattle.cbor_grammar.specs.Reading.{read_parts, read_head, counted_item, read_item}
use Rattle.cbor_grammar.specs.Reading.{read_chunks, read_content, ◌>>-◌, ◌>>=◌, one_less, count_width}
use Rattle.cbor_grammar.specs.mirror.AtLevel.{read_at, read_behind, body_read}
use Rattle.cbor_grammar.specs.mirror.Lengths.{left_of}
use Rattle.cbor_grammar.specs.WellFormed.{levels_left}
use Rattle.cbor_grammar.proofs.bytes.Heads.{IsBytes, then_ok}
use Rattle.cbor_grammar.proofs.bytes.Shorter.{item_shorter}
use Rattle.cbor_grammar.proofs.bytes.Steps.{parts_more, item_shortens}
use Rattle.cbor_bytes.proofs.reading.Readings.{parts_read, item_after, one_more, float_fits}
use Rattle.cbor_bytes.proofs.reading.Levels.{head_reads, too_deep}
use Rattle.cbor_json.specs.Kept.{IsKept, KeptItems, KeptPairs, IsText, head_loss, is_text_head, is_finite}
use Rattle.cbor_json.specs.Kept.{is_json_simple, ReadsItems, HasMore, FirstLoss}
use Rattle.cbor_json.specs.Kept.{at_head, in_member, at_key, in_value}
use Rattle.cbor_json.specs.declared.error.LossKind.{LossKind}
use Rattle.cbor_json.specs.declared.error.LossKind.TheVariants as loss
use Rattle.cbor_json.specs.declared.loss.Stop.{Stop}
use Rattle.cbor_json.specs.declared.loss.Stop.TheVariants as stop
use Rattle.cbor_json.specs.mirror.Losing.{FitsHead, NoneRead, NoneKept, Stops, StopsAfter}
use Rattle.cbor_json.specs.mirror.Losing.{StopsAtKey}

-- ---- members, one more

pub kept_joined : (is js : Items) → KeptItems is → KeptItems js → KeptItems (joined is js)
kept_joined no_items js h k = k
kept_joined (item i is) js h k = (h.0, kept_joined is js h.1 k)

pub kept_first : (is js : Items) → KeptItems (joined is js) → KeptItems is × KeptItems js
kept_first no_items js h = (tt, h)
kept_first (item i is) js h = let r = kept_first is js h.1 in ((h.0, r.0), r.1)

pub kept_joined_pairs : (ps qs : Pairs) → KeptPairs ps → KeptPairs qs → KeptPairs (joined_pairs ps qs)
kept_joined_pairs no_pairs qs h k = k
kept_joined_pairs (pair a b ps) qs h k = (h.0, h.1, kept_joined_pairs ps qs h.2 k)

pub kept_first_pairs : (ps qs : Pairs) → KeptPairs (joined_pairs ps qs) → KeptPairs ps × KeptPairs qs
kept_first_pairs no_pairs qs h = (tt, h)
kept_first_pairs (pair a b ps) qs h = let r = kept_first_pairs ps qs h.2 in ((h.0, h.1, r.0), r.1)

pub reads_more : (left : ℕ) (b mid rest : List ℕ) (is : Items) (i : Item) → ReadsItems left b is mid
    → read_item left mid ≡ Ok (i, rest) → ReadsItems left b (joined is (item i no_items)) rest
reads_more left b mid rest no_items i h e = (rest, ap (read_item left) h ∙ e, refl)
reads_more left b mid rest (item j is) i h e = (h.0, h.1, reads_more left h.0 mid rest is i h.2 e)

parts_joined : (ps : Pairs) (k v : Item)
    → parts (joined_pairs ps (pair k v no_pairs)) ≡ joined (joined (parts ps) (item k no_items)) (item v no_items)
parts_joined no_pairs k v = refl
parts_joined (pair a b ps) k v = ap (λ x. item a (item b x)) (parts_joined ps k v)

pub reads_pair : (left : ℕ) (b mid next rest : List ℕ) (ps : Pairs) (k v : Item) → ReadsItems left b (parts ps) mid
    → read_item left mid ≡ Ok (k, next) → read_item left next ≡ Ok (v, rest)
    → ReadsItems left b (parts (joined_pairs ps (pair k v no_pairs))) rest
reads_pair left b mid next rest ps k v h key value =
    subst (λ x. ReadsItems left b x rest) (sym (parts_joined ps k v))
    (reads_more left b next rest (joined (parts ps) (item k no_items)) v
    (reads_more left b mid next (parts ps) k h key) value)

-- ---- what an open container holds is kept

abbrev pub KeptFrame : Frame → Type 0
KeptFrame (items_in is left) = KeptItems is
KeptFrame (pairs_in ps left) = KeptPairs ps
KeptFrame (value_of ps k left) = KeptPairs ps × IsText k
KeptFrame (tag_of t w) = ⊥
KeptFrame (tagged_with t w i) = ⊥

-- the part that was put last
abbrev pub KeptPart : Frame → Item → Type 0
KeptPart (items_in is left) i = IsKept i
KeptPart (pairs_in ps left) k = IsText k
KeptPart (value_of ps k left) v = IsKept v
KeptPart (tag_of t w) i = ⊥
KeptPart (tagged_with t w j) i = ⊥

kept_put : (f : Frame) (i : Item) → KeptFrame (put f i) → KeptFrame f × KeptPart f i
kept_put (items_in is left) i h = let r = kept_first is (item i no_items) h in (r.0, r.1.0)
kept_put (pairs_in ps left) i h = (h.0, h.1)
kept_put (value_of ps k left) i h =
    let r = kept_first_pairs ps (pair k i no_pairs) h in ((r.0, r.1.0), r.1.1)
kept_put (tag_of t w) i h = absurd h
kept_put (tagged_with t w j) i h = absurd h

kept_closed : (f : Frame) (i : Item) → closed f ≡ Some i → IsKept i → KeptFrame f
kept_closed (items_in is left) i e h = subst IsKept (sym (some_is e)) h
  where
    some_is : {x y : Item} → Some x ≡ Some y → x ≡ y
    some_is e = cc
kept_closed (pairs_in ps left) i e h = subst IsKept (sym (some_is e)) h
  where
    some_is : {x y : Item} → Some x ≡ Some y → x ≡ y
    some_is e = cc
kept_closed (value_of ps k left) i e h = absurd cc
kept_closed (tag_of t w) i e h = absurd cc
kept_closed (tagged_with t w j) i e h = subst IsKept (sym (some_is e)) h
  where
    some_is : {x y : Item} → Some x ≡ Some y → x ≡ y
    some_is e = cc

close_cases : (c : Option Item) (e : Option (List ℕ)) (more : Counted Item) (x : Item × List ℕ)
    → (close_or c e more).1 ≡ Ok x → (c ≡ Some x.0) ⊎ (more.1 ≡ Ok x)
close_cases (Some j) (Some after) more x h = let is : (j, after) ≡ x = cc in inl
    (ap (λ (y : Item × List ℕ). Some y.0) is)
close_cases (Some j) None more x h = inr h
close_cases None e more x h = inr h

pub frame_kept : (n left : ℕ) (f : Frame) (b : List ℕ) (x : Item × List ℕ)
    → (parts_from n (counted_item left) f b).1 ≡ Ok x → IsKept x.0 → KeptFrame f
unfolding parts_from
frame_kept zero left f b x e kept = absurd cc
frame_kept (suc n) left f b x e kept =
    let read = counted_item left in
    elim (close_cases (closed f) (after_end f b) (read b >>- λ i. parts_from n read (put f i.0) i.1) x e) [
      | inl ends ↦ kept_closed f x.0 ends kept
      | inr more ↦
          let t = then_ok (read b) (λ i. parts_from n read (put f i.0) i.1) x more in
          (kept_put f t.0.0 (frame_kept n left (put f t.0.0) t.0.1 x t.2 kept)).0
    ]

closed_text : (f : Frame) (i : Item) → closed f ≡ Some i → ¬ (IsText i)
closed_text (items_in is left) (atom a) e h = absurd cc
closed_text (items_in is left) (array js w) e h = h
closed_text (items_in is left) (spec.map ps w) e h = h
closed_text (items_in is left) (spec.tagged t w i) e h = h
closed_text (pairs_in ps left) (atom a) e h = absurd cc
closed_text (pairs_in ps left) (array js w) e h = h
closed_text (pairs_in ps left) (spec.map qs w) e h = h
closed_text (pairs_in ps left) (spec.tagged t w i) e h = h
closed_text (value_of ps k left) i e h = absurd cc
closed_text (tag_of t w) i e h = absurd cc
closed_text (tagged_with t w j) (atom a) e h = absurd cc
closed_text (tagged_with t w j) (array js v) e h = h
closed_text (tagged_with t w j) (spec.map qs v) e h = h
closed_text (tagged_with t w j) (spec.tagged u v i) e h = h

-- a container is no text
no_text : (n left : ℕ) (f : Frame) (b : List ℕ) (x : Item × List ℕ)
    → (parts_from n (counted_item left) f b).1 ≡ Ok x → ¬ (IsText x.0)
unfolding parts_from
no_text zero left f b x e text = absurd cc
no_text (suc n) left f b x e text =
    let read = counted_item left in
    elim (close_cases (closed f) (after_end f b) (read b >>- λ i. parts_from n read (put f i.0) i.1) x e) [
      | inl ends ↦ closed_text f x.0 ends text
      | inr more ↦
          let t = then_ok (read b) (λ i. parts_from n read (put f i.0) i.1) x more in
          no_text n left (put f t.0.0) t.0.1 x t.2 text
    ]

-- ---- a container that goes on

pub has_more : (len : Argument) (held : ℕ) (b : List ℕ) → after_members (left_of len held) b ≡ None → HasMore len held
has_more (Number n w) held b none =
    elim (cases_lt held n) [
      | inl lt ↦ lt
      | inr le ↦
          let over : n - held ≡ 0 = omega (arith, le) in
          let wrong : Some b ≡ None = ap (λ k. after_members (Number k w) b) (sym over) ∙ none in
          absurd cc
    ]
has_more Indefinite held b none = tt

module _ (left : ℕ) (f : Frame) (b : List ℕ) (none : after_end f b ≡ None) where
  next_part : (x : Item × List ℕ) → parts_read left f b ≡ Ok x
      → (y : Item × List ℕ) × (read_item left b ≡ Ok y) × (parts_read left (put f y.0) y.1 ≡ Ok x)
  next_part x e = then_ok (counted_item left b) (λ y. read_parts (counted_item left) (put f y.0) y.1) x
      (sym (ap (λ (c : Counted Item). c.1) (parts_more (counted_item left) (item_shortens left) f b none)) ∙ e)

  pub none_kept : ((i : Item) (rest : List ℕ) → read_item left b ≡ Ok (i, rest) → ¬ (KeptPart f i))
      → NoneKept (parts_read left f b)
  none_kept lost i rest e kept =
      let y = next_part (i, rest) e in
      let frame = frame_kept (suc (length y.0.1)) left (put f y.0.0) y.0.1 (i, rest) y.2 kept in
      lost y.0.0 y.0.1 y.1 (kept_put f y.0.0 frame).1

  pub none_read : NoneRead (read_item left b) → NoneRead (parts_read left f b)
  none_read lost i rest e = let y = next_part (i, rest) e in lost y.0.0 y.0.1 y.1

-- the same of the value of a key
module _ (left : ℕ) (ps : Pairs) (a : Argument) (b mid : List ℕ) (k : Item) (none : after_members a b ≡ None)
    (key : read_item left b ≡ Ok (k, mid)) where
  goes_on : (x : Item × List ℕ) → parts_read left (pairs_in ps a) b ≡ Ok x
      → parts_read left (value_of ps k (one_less a)) mid ≡ Ok x
  goes_on x e =
      let y = next_part left (pairs_in ps a) b none x e in
      let same : y.0 ≡ (k, mid) = let both = sym y.1 ∙ key in cc in
      subst (λ (z : Item × List ℕ). parts_read left (put (pairs_in ps a) z.0) z.1 ≡ Ok x) same y.2

  pub none_kept_value : NoneKept (read_item left mid) → NoneKept (parts_read left (pairs_in ps a) b)
  none_kept_value lost i rest e kept =
      none_kept left (value_of ps k (one_less a)) mid refl lost i rest (goes_on (i, rest) e) kept

  pub none_read_value : NoneRead (read_item left mid) → NoneRead (parts_read left (pairs_in ps a) b)
  none_read_value lost i rest e =
      none_read left (value_of ps k (one_less a)) mid refl lost i rest (goes_on (i, rest) e)

-- ---- items that hold no item

bind_ok : {A B : Type 0} (r : Read A) (f : A × List ℕ → Read B) (y : B × List ℕ) → (r >>= f) ≡ Ok y
    → (x : A × List ℕ) × (f x ≡ Ok y)
bind_ok (Ok x) f y e = (x, e)
bind_ok (Err d) f y e = absurd cc

finite_of : (t : Bool) (k : LossKind) → (if t then None else Some k) ≡ None → IsTrue t
finite_of true k e = refl
finite_of false k e = absurd cc

not_finite : (t : Bool) (k l : LossKind) → (if t then None else Some k) ≡ Some l → ¬ (IsTrue t)
not_finite true k l e is = absurd cc
not_finite false k l e is = absurd cc

item_is : {i : Item} {rest : List ℕ} {x : Item × List ℕ} → ◌≡◌ {A = Read Item} (Ok (i, rest)) (Ok x) → i ≡ x.0
item_is {i = i} {rest = rest} {x = x} e = let is : (i, rest) ≡ x = cc in ap (λ (y : Item × List ℕ). y.0) is

-- the head opens nothing, and nothing is lost by it
pub atom_kept : (h : ItemHead) (b : List ℕ) (n : ℕ) (x : Item × List ℕ) → body_read h b n ≡ Ok x
    → head_loss h ≡ None → opened h ≡ None → IsKept x.0
atom_kept (head.Integer n w) b levels x e none atom_is = subst IsKept (item_is e) tt
atom_kept (head.Negative n w) b levels x e none atom_is = subst IsKept (item_is e) tt
atom_kept (head.Float bits w) b levels x e none atom_is = subst IsKept (item_is e)
    (finite_of (is_finite bits w) loss.NotFinite none)
atom_kept (head.Simple n) b levels x e none atom_is = subst IsKept (item_is e)
    (finite_of (is_json_simple n) loss.Simple none)
atom_kept (head.String kind.Text (Number n w)) b levels x e none atom_is =
    let t = bind_ok (read_content kind.Text n w b) (λ c. Ok (atom (spec.string kind.Text c.0), c.1)) x e in
    subst IsKept (item_is t.1) tt
atom_kept (head.String kind.Text Indefinite) b levels x e none atom_is =
    let t = then_ok (read_chunks (length b) kind.Text b) (λ cs.
    (0, Ok (atom (spec.chunked_string kind.Text cs.0), cs.1)))
    x e in
    subst IsKept (item_is t.2) tt
atom_kept (head.String kind.Bytes a) b levels x e none atom_is = absurd cc
atom_kept (head.Tag n w) b levels x e none atom_is = absurd cc
atom_kept (head.Array a) b levels x e none atom_is = absurd cc
atom_kept (head.Map a) b levels x e none atom_is = absurd cc

-- what is lost by its head
lost_atom : (h : ItemHead) (b : List ℕ) (n : ℕ) (x : Item × List ℕ) (lost : LossKind) → body_read h b n ≡ Ok x
    → head_loss h ≡ Some lost → ¬ (IsKept x.0)
lost_atom (head.Integer n w) b levels x lost e is kept = absurd cc
lost_atom (head.Negative n w) b levels x lost e is kept = absurd cc
lost_atom (head.String kind.Text a) b levels x lost e is kept = absurd cc
lost_atom (head.String kind.Bytes (Number n w)) b levels x lost e is kept =
    let t = bind_ok (read_content kind.Bytes n w b) (λ c. Ok (atom (spec.string kind.Bytes c.0), c.1)) x e in
    subst IsKept (sym (item_is t.1)) kept
lost_atom (head.String kind.Bytes Indefinite) b levels x lost e is kept =
    let t = then_ok (read_chunks (length b) kind.Bytes b)
    (λ cs. (0, Ok (atom (spec.chunked_string kind.Bytes cs.0), cs.1))) x e in
    subst IsKept (sym (item_is t.2)) kept
lost_atom (head.Array a) b levels x lost e is kept = absurd cc
lost_atom (head.Map a) b levels x lost e is kept = absurd cc
lost_atom (head.Tag n w) b levels x lost e is kept =
    frame_kept (suc (length b)) levels (tag_of n w) b x e kept
lost_atom (head.Float bits w) b levels x lost e is kept =
    not_finite (is_finite bits w) loss.NotFinite lost is (subst IsKept (sym (item_is e)) kept)
lost_atom (head.Simple n) b levels x lost e is kept =
    not_finite (is_json_simple n) loss.Simple lost is (subst IsKept (sym (item_is e)) kept)

-- a text, by its head
text_so : (h : ItemHead) (b : List ℕ) (n : ℕ) (x : Item × List ℕ) → body_read h b n ≡ Ok x → is_text_head h ≡ true
    → IsText x.0
text_so (head.String kind.Text (Number n w)) b levels x e is =
    let t = bind_ok (read_content kind.Text n w b) (λ c. Ok (atom (spec.string kind.Text c.0), c.1)) x e in
    subst IsText (item_is t.1) tt
text_so (head.String kind.Text Indefinite) b levels x e is =
    let t = then_ok (read_chunks (length b) kind.Text b) (λ cs.
    (0, Ok (atom (spec.chunked_string kind.Text cs.0), cs.1)))
    x e in
    subst IsText (item_is t.2) tt
text_so (head.String kind.Bytes a) b levels x e is = absurd cc
text_so (head.Integer n w) b levels x e is = absurd cc
text_so (head.Negative n w) b levels x e is = absurd cc
text_so (head.Array a) b levels x e is = absurd cc
text_so (head.Map a) b levels x e is = absurd cc
text_so (head.Tag n w) b levels x e is = absurd cc
text_so (head.Float bits w) b levels x e is = absurd cc
text_so (head.Simple n) b levels x e is = absurd cc

other_so : (h : ItemHead) (b : List ℕ) (n : ℕ) (x : Item × List ℕ) → body_read h b n ≡ Ok x → is_text_head h ≡ false
    → ¬ (IsText x.0)
other_so (head.String kind.Text a) b levels x e is text = absurd cc
other_so (head.String kind.Bytes (Number n w)) b levels x e is text =
    let t = bind_ok (read_content kind.Bytes n w b) (λ c. Ok (atom (spec.string kind.Bytes c.0), c.1)) x e in
    subst IsText (sym (item_is t.1)) text
other_so (head.String kind.Bytes Indefinite) b levels x e is text =
    let t = then_ok (read_chunks (length b) kind.Bytes b)
    (λ cs. (0, Ok (atom (spec.chunked_string kind.Bytes cs.0), cs.1))) x e in
    subst IsText (sym (item_is t.2)) text
other_so (head.Integer n w) b levels x e is text = subst IsText (sym (item_is e)) text
other_so (head.Negative n w) b levels x e is text = subst IsText (sym (item_is e)) text
other_so (head.Float bits w) b levels x e is text = subst IsText (sym (item_is e)) text
other_so (head.Simple n) b levels x e is text = subst IsText (sym (item_is e)) text
other_so (head.Array a) b levels x e is text = no_text (suc (length b)) levels (items_in no_items a) b x e text
other_so (head.Map a) b levels x e is text = no_text (suc (length b)) levels (pairs_in no_pairs a) b x e text
other_so (head.Tag n w) b levels x e is text = no_text (suc (length b)) levels (tag_of n w) b x e text

module _ (left : ℕ) (b : List ℕ) (h : ItemHead) (r : List ℕ) (head_is : read_head b ≡ Ok (h, r)) (x : Item × List ℕ)
    (is : read_item left b ≡ Ok x) where
  pub kept_atom : head_loss h ≡ None → opened h ≡ None → IsKept x.0
  kept_atom none atom_is = let a = item_after left b h r x head_is is in atom_kept h r a.0 x a.1 none atom_is

  pub lost_not_kept : (kind : LossKind) → head_loss h ≡ Some kind → ¬ (IsKept x.0)
  lost_not_kept kind lost kept = let a = item_after left b h r x head_is is in lost_atom h r a.0 x kind a.1 lost kept

  pub key_text : is_text_head h ≡ true → IsText x.0
  key_text text = let a = item_after left b h r x head_is is in text_so h r a.0 x a.1 text

  pub key_other : is_text_head h ≡ false → ¬ (IsText x.0)
  key_other other = let a = item_after left b h r x head_is is in other_so h r a.0 x a.1 other

-- ---- where reading stops after a head

abbrev left_below : ℕ → ℕ
left_below level = levels_left (level + 1)

module _ (level : ℕ) (a : Argument) (b rest : List ℕ) (held : ℕ) (le : level ≤ 128)
    (within : length rest ≤ length b) (on : after_members (left_of a held) rest ≡ None) where
  -- at a member of an array
  pub member_stops : (is : Items) (s : Stop) → parts_read (left_below level) (items_in is (left_of a held)) rest
      ≡ parts_read (left_below level) (items_in no_items a) b → ReadsItems (left_below level) b is rest → KeptItems is
      → held ≡ item_count is → Stops (level + 1) rest s → StopsAfter level (head.Array a) b s
  member_stops is (stop.Lost n kind) so_far reads kept count here = (
    λ c e. subst (λ l. FirstLoss l c n kind) (sym (one_more level le))
        (in_member a b rest is e reads kept (subst (HasMore a) count (has_more a held rest on)) here.0),
    subst NoneKept so_far
        (none_kept (left_below level) (items_in is (left_of a held)) rest on here.1),
    omega (arith, here.2, within),
  )
  member_stops is stop.NoItem so_far reads kept count here =
      subst NoneRead so_far (none_read (left_below level) (items_in is (left_of a held)) rest on here)

  module _ (ps : Pairs)
      (so_far : parts_read (left_below level) (pairs_in ps (left_of a held)) rest
      ≡ parts_read (left_below level) (pairs_in no_pairs a) b)
      (reads : ReadsItems (left_below level) b (parts ps) rest) (kept : KeptPairs ps)
      (count : held ≡ pair_count ps) where
    more : HasMore a (pair_count ps)
    more = subst (HasMore a) count (has_more a held rest on)

    -- at a key
    pub key_stops : (s : Stop) → StopsAtKey (level + 1) rest s → StopsAfter level (head.Map a) b s
    key_stops (stop.Lost n kind) here = (
      λ c e. subst (λ l. FirstLoss l c n kind) (sym (one_more level le))
          (subst (λ k. FirstLoss (suc (left_below level)) c n k) (sym here.1)
          (at_key a b rest ps here.2.head here.2.rest e reads kept more here.2.read here.2.other here.0)),
      subst NoneKept so_far (none_kept (left_below level) (pairs_in ps (left_of a held)) rest on here.2.none),
      omega (arith, here.0, within),
    )
    key_stops stop.NoItem here =
        subst NoneRead so_far (none_read (left_below level) (pairs_in ps (left_of a held)) rest on here)

    -- at the value of a key
    pub value_stops : (mid : List ℕ) (k : Item) (s : Stop) → read_item (left_below level) rest ≡ Ok (k, mid)
        → IsText k → Stops (level + 1) mid s → StopsAfter level (head.Map a) b s
    value_stops mid k (stop.Lost n kind) key text here = (
      λ c e. subst (λ l. FirstLoss l c n kind) (sym (one_more level le))
          (in_value a b rest mid ps k e reads kept more key text here.0),
      subst NoneKept so_far
          (none_kept_value (left_below level) ps (left_of a held) rest mid k on key here.1),
      omega (arith, here.2, item_shorter (left_below level) rest k mid key, within),
    )
    value_stops mid k stop.NoItem key text here =
        subst NoneRead so_far (none_read_value (left_below level) ps (left_of a held) rest mid k on key here)

-- from what is after a head to the item
pub stops_at : (level : ℕ) (b rest : List ℕ) (h : ItemHead) (s : Stop) → level ≤ 128 → length rest ≤ length b
    → read_head b ≡ Ok (h, rest) → StopsAfter level h rest s → Stops level b s
stops_at level b rest h (stop.Lost n kind) le within e s =
    (s.0 b e, subst NoneKept (sym (head_reads level b h rest le e)) s.1, omega (arith, s.2, within))
stops_at level b rest h stop.NoItem le within e s = subst NoneRead (sym (head_reads level b h rest le e)) s

-- at a head that is not kept
pub stops_here : (level : ℕ) (b rest : List ℕ) (h : ItemHead) (kind : LossKind) → level ≤ 128
    → read_head b ≡ Ok (h, rest) → head_loss h ≡ Some kind → Stops level b (stop.Lost (length b) kind)
stops_here level b rest h kind le e is = (
  subst (λ l. FirstLoss l b (length b) kind) (sym (one_more level le)) (at_head h rest e is),
  λ i r read kept. lost_not_kept (levels_left level) b h rest e (i, r) read kind is kept,
  omega arith,
)

-- ---- what the functions return

module _ (level : ℕ) (b rest : List ℕ) (h : ItemHead) (le : level ≤ 128) (e : read_head b ≡ Ok (h, rest)) where
  pub kept_so : {A E : Type 0} (r : Result A E) (f : A → List ℕ)
      → IfOk r (λ x. (i : Item) × (read_behind level h rest ≡ Ok (i, f x)) × IsKept i)
      → IfOk r (λ x. (i : Item) × (read_at level b ≡ Ok (i, f x)) × IsKept i)
  kept_so (Ok x) f is = (is.0, head_reads level b h rest le e ∙ is.1, is.2)
  kept_so (Err d) f is = tt

  pub stops_so : {A : Type 0} (r : Result A Stop) → length rest ≤ length b → IfErr r (StopsAfter level h rest)
      → IfErr r (Stops level b)
  stops_so (Ok x) within is = tt
  stops_so (Err s) within is = stops_at level b rest h s le within e is

  pub atom_so : {A E : Type 0} (r : Result A E) (f : A → List ℕ) → head_loss h ≡ None → opened h ≡ None
      → IfOk r (λ x. (i : Item) × (read_at level b ≡ Ok (i, f x)))
      → IfOk r (λ x. (i : Item) × (read_at level b ≡ Ok (i, f x)) × IsKept i)
  atom_so (Ok x) f none atom_is is =
      (is.0, is.1, kept_atom (levels_left level) b h rest e (is.0, f x) is.1 none atom_is)
  atom_so (Err d) f none atom_is is = tt

-- a head that is kept, and is none of an array or a map
pub opens_none : (h : ItemHead) → head_loss h ≡ None → ((a : Argument) → ¬ (h ≡ head.Array a))
    → ((a : Argument) → ¬ (h ≡ head.Map a)) → opened h ≡ None
opens_none (head.Integer n w) none no_array no_map = refl
opens_none (head.Negative n w) none no_array no_map = refl
opens_none (head.String k a) none no_array no_map = refl
opens_none (head.Array a) none no_array no_map = absurd (no_array a refl)
opens_none (head.Map a) none no_array no_map = absurd (no_map a refl)
opens_none (head.Tag n w) none no_array no_map = absurd cc
opens_none (head.Float bits w) none no_array no_map = refl
opens_none (head.Simple n) none no_array no_map = refl

pub head_fits : (h : ItemHead) (b rest : List ℕ) → IsBytes b → read_head b ≡ Ok (h, rest) → FitsHead h
head_fits (head.Float bits w) b rest bytes e = float_fits b rest bits w bytes e
head_fits (head.Integer n w) b rest bytes e = tt
head_fits (head.Negative n w) b rest bytes e = tt
head_fits (head.String k a) b rest bytes e = tt
head_fits (head.Array a) b rest bytes e = tt
head_fits (head.Map a) b rest bytes e = tt
head_fits (head.Tag n w) b rest bytes e = tt
head_fits (head.Simple n) b rest bytes e = tt

pub deep_stops : (level : ℕ) (b : List ℕ) → 128 < level → NoneRead (read_at level b)
deep_stops level b lt i rest e = let wrong = sym (too_deep level b lt) ∙ e in cc

pub width_is : (a : Argument) (held : ℕ) → count_width (left_of a held) ≡ count_width a
width_is (Number n w) held = refl
width_is Indefinite held = refl

pub same_kept : (read : Read Item) (r : List ℕ) → (i : Item) × (read ≡ Ok (i, r)) × IsKept i → (j : Item)
    (rest : List ℕ)
    → read ≡ Ok (j, rest) → IsKept j
same_kept read r k j rest e =
    let both = sym k.1 ∙ e in
    let is : (k.0, r) ≡ (j, rest) = cc in
    subst IsKept (ap (λ (y : Item × List ℕ). y.0) is) k.2
