-- If each member or pair is re-encoded as the same item, so are all of a container (`ItemsMore`, `PairsMore`) and of a
-- sequence (`Sequence`). At an allowed level and with fewer than 2 ^ 64 members, a head and an end around them make the
-- same array, map or tag (`array_done`, `map_done`, `tag_done`); the pairs may be in another order.
use Rattle.std.proofs.Common.{◌≡◌, ℕ, zero, suc, ◌+◌, ◌-◌, ◌^◌, ◌<◌, ◌≤◌, Bool, true, false, List, [], ◌∷◌, ◌++◌}
use Rattle.std.proofs.Common.{length, cond, Option, Some, None, refl, sym, ap, subst, ◌∙◌, append_assoc, arith}
use Rattle.std.proofs.Common.{add-zero, zero-add}
use Rattle.std.proofs.lemmas.List.{append-nil, length-append}
use Rattle.std.proofs.lemmas.List.Sorted.{length_permutation}
use Rattle.std.specs.List.Sorted.{IsPermutation}
use Rattle.cbor_grammar.specs.declared.width.IntegerWidth.{IntegerWidth}
use Rattle.cbor_grammar.specs.declared.argument.Argument.{Argument}
use Rattle.cbor_grammar.specs.declared.argument.Argument.TheVariants.{Number, Indefinite}
use Rattle.cbor_grammar.specs.Item as spec
use Rattle.cbor_grammar.specs.Item.{Item, atom, array, tagged, no_items, item, Pairs}
use Rattle.cbor_grammar.specs.Item.{no_pairs, pair, item_count, pair_count}
use Rattle.cbor_grammar.specs.Head.{opening, break_byte, head, HeadThen, FitsStated, shortest}
use Rattle.cbor_grammar.specs.WellFormed.{deepest}
use Rattle.cbor_grammar.specs.Bytes.{strict, MembersThen, Spells, SpellsItems, SpellsPairs}
use Rattle.cbor_grammar.specs.Written.{encoded_open, encoded_close}
use Rattle.cbor_grammar.specs.Reading.{after_members, count_width}
use Rattle.cbor_grammar.specs.mirror.Lengths.{left_of}
use Rattle.cbor_grammar.proofs.bytes.Heads.{ArgumentThen}
use Rattle.cbor_grammar.proofs.bytes.Found.{after_break_is}
use Rattle.cbor_rules.specs.declared.rules.Rules.{Rules}
use Rattle.cbor_reencode.specs.declared.pairs.Pair.{Pair}
use Rattle.cbor_reencode.specs.mirror.Chosen.{chosen_count, FitsHeld}
use Rattle.cbor_reencode.specs.mirror.Rewritten.{Written, Rewritten, RewrittenAtom, CountIs, close, PairsAre}
use Rattle.cbor_reencode.specs.mirror.Rewritten.{RewrittenItems}
use Rattle.cbor_reencode.specs.mirror.Rewritten.{RewrittenPairs, pair_bytes, Sequence}
use Rattle.cbor_reencode.specs.mirror.Numbers.{tagged_bytes}
use Rattle.cbor_reencode.proofs.BigNumbers.{tag_again}
use Rattle.cbor_reencode.proofs.Choices.{shortest_fits, chosen_fits, stated_head}
use Rattle.cbor_reencode.proofs.Sorted.{ordered}

pub atom_done : (rules : Rules) (level : ℕ) (b rest old new : List ℕ) → level ≤ deepest
    → RewrittenAtom rules b rest old new → Rewritten rules level b rest old new
atom_done rules level b rest old new le a = record {
  item = atom a.atom;
  front = a.front;
  parts = a.parts;
  spells = (le, a.spells);
  bytes = a.bytes;
  added = a.added;
  again = record { item = atom a.written; spells = (le, a.written_spells); same = a.same };
}

-- ---- how many are still to come

pub close_left : (a : Argument) (held : ℕ) → close (left_of a held) ≡ close a
close_left (Number n w) held = refl
close_left Indefinite held = refl

some_left : (n : ℕ) (w : IntegerWidth) (b : List ℕ) → after_members (Number n w) b ≡ None → 0 < n
some_left zero w b e = absurd cc
some_left (suc n) w b e = omega arith

pub one_fewer : (a : Argument) (held : ℕ) (b : List ℕ) (k : ℕ) → after_members (left_of a held) b ≡ None
    → CountIs (left_of a (held + 1)) k → CountIs (left_of a held) (suc k)
one_fewer (Number n w) held b k none is = let some = some_left (n - held) w b none in omega arith
one_fewer Indefinite held b k none is = tt

-- before any is there
pub count_at_first : (a : Argument) (k : ℕ) → CountIs (left_of a 0) k → CountIs a k
count_at_first (Number n w) k is = omega arith
count_at_first Indefinite k is = tt

-- the bytes after the last one
record Ended (a : Argument) (b after : List ℕ) : Type 0 where
  pub front : List ℕ
  pub parts : b ≡ front ++ after
  pub is : front ≡ close a
  pub none : CountIs a 0

ended : (a : Argument) (b after : List ℕ) → after_members a b ≡ Some after → Ended a b after
ended (Number zero w) b after e = (let same : b ≡ after = cc in
    record { front = []; parts = same; is = refl; none = refl })
ended (Number (suc n) w) b after e = absurd cc
ended Indefinite b after e = record {
  front = break_byte ∷ [];
  parts = after_break_is b after e;
  is = refl;
  none = tt;
}

-- ---- members

pub items_end : (rules : Rules) (level : ℕ) (a : Argument) (b after old : List ℕ) → after_members a b ≡ Some after
    → RewrittenItems rules level a b after old old 0
items_end rules level a b after old e =
    let s = ended a b after e in
    record {
      items = no_items;
      front = s.front;
      parts = s.parts;
      number = refl;
      count = s.none;
      spells = s.is;
      bytes = [];
      added = sym (append-nil old);
      written = no_items;
      written_number = refl;
      written_spells = λ end. refl;
      same = tt;
    }

pub items_more : (rules : Rules) (level : ℕ) (a : Argument) (held : ℕ) (b r after old mid new : List ℕ) (n : ℕ)
    → after_members (left_of a held) b ≡ None → Rewritten rules level b r old mid
    → RewrittenItems rules level (left_of a (held + 1)) r after mid new n
    → RewrittenItems rules level (left_of a held) b after old new (suc n)
items_more rules level a held b r after old mid new n none one m = record {
  items = item one.item m.items;
  front = one.front ++ m.front;
  parts = one.parts ∙ ap (λ (x : List ℕ). one.front ++ x) m.parts ∙ sym (append_assoc one.front m.front after);
  number = ap suc m.number;
  count = one_fewer a held b n none m.count;
  spells = (
    one.front,
    m.front,
    refl,
    one.spells,
    subst (λ (e : List ℕ). SpellsItems strict level m.front m.items e)
        (close_left a (held + 1) ∙ sym (close_left a held)) m.spells,
  );
  bytes = one.bytes ++ m.bytes;
  added = m.added ∙ ap (λ (x : List ℕ). x ++ m.bytes) one.added ∙ append_assoc old one.bytes m.bytes;
  written = item one.again.item m.written;
  written_number = ap suc m.written_number;
  written_spells = λ end.
      (one.bytes, m.bytes ++ end, append_assoc one.bytes m.bytes end, one.again.spells, m.written_spells end);
  same = (one.again.same, m.same);
}

-- what a loop over members keeps: what is written for those that are left is written for all of them
abbrev pub ItemsMore : Rules → ℕ → Argument → ℕ → List ℕ → List ℕ → List ℕ → Type 0
ItemsMore rules level a held b rest written = (after new : List ℕ) (n : ℕ)
    → RewrittenItems rules level (left_of a held) rest after written new n
    → RewrittenItems rules level a b after [] new (held + n)

pub items_start : (rules : Rules) (level : ℕ) (a : Argument) (b written : List ℕ) → written ≡ []
    → ItemsMore rules level a 0 b b written
items_start rules level a b written e = λ after new n m. record {
  items = m.items;
  front = m.front;
  parts = m.parts;
  number = m.number ∙ sym (zero-add n);
  count = subst (λ k. CountIs a k) (sym (zero-add n)) (count_at_first a n m.count);
  spells = subst (λ (x : List ℕ). SpellsItems strict level m.front m.items x) (close_left a 0) m.spells;
  bytes = m.bytes;
  added = m.added ∙ ap (λ (x : List ℕ). x ++ m.bytes) e;
  written = m.written;
  written_number = m.written_number ∙ sym (zero-add n);
  written_spells = m.written_spells;
  same = m.same;
}

pub items_step : (rules : Rules) (level : ℕ) (a : Argument) (held : ℕ) (b rest r written mid : List ℕ)
    → ItemsMore rules level a held b rest written → after_members (left_of a held) rest ≡ None
    → Rewritten rules level rest r written mid → ItemsMore rules level a (held + 1) b r mid
items_step rules level a held b rest r written mid more none one = λ after new n m.
    let sum : held + suc n ≡ held + 1 + n = omega arith in
    subst (λ k. RewrittenItems rules level a b after [] new k) sum
    (more after new (suc n) (items_more rules level a held rest r after written mid new n none one m))

pub items_whole : (rules : Rules) (level : ℕ) (a : Argument) (held : ℕ) (b rest after written : List ℕ)
    → ItemsMore rules level a held b rest written → after_members (left_of a held) rest ≡ Some after
    → RewrittenItems rules level a b after [] written held
items_whole rules level a held b rest after written more e =
    subst (λ k. RewrittenItems rules level a b after [] written k) (add-zero held)
    (more after written 0 (items_end rules level (left_of a held) rest after written e))

-- ---- pairs

pub pairs_end : (rules : Rules) (level : ℕ) (a : Argument) (b after : List ℕ) (old : List Pair)
    → after_members a b ≡ Some after → RewrittenPairs rules level a b after old old
pairs_end rules level a b after old e =
    let s = ended a b after e in
    record {
      pairs = no_pairs;
      front = s.front;
      parts = s.parts;
      count = s.none;
      spells = s.is;
      kept = [];
      added = sym (append-nil old);
      are = tt;
    }

pub pairs_more : (rules : Rules) (level : ℕ) (a : Argument) (held : ℕ) (b r s after : List ℕ) (p : Pair)
    (old mid new : List Pair) → after_members (left_of a held) b ≡ None
    → Rewritten rules level b r [] p.key.items → Rewritten rules level r s [] p.value.items → mid ≡ old ++ (p ∷ [])
    → RewrittenPairs rules level (left_of a (held + 1)) s after mid new
    → RewrittenPairs rules level (left_of a held) b after old new
pairs_more rules level a held b r s after p old mid new none key value e m = record {
  pairs = pair key.item value.item m.pairs;
  front = key.front ++ (value.front ++ m.front);
  parts = key.parts ∙ ap (λ (x : List ℕ). key.front ++ x) (value.parts ∙ ap (λ (x : List ℕ). value.front ++ x) m.parts
      ∙ sym (append_assoc value.front m.front after)) ∙ sym (append_assoc key.front (value.front ++ m.front) after);
  count = one_fewer a held b (pair_count m.pairs) none m.count;
  spells = (
    key.front,
    value.front,
    m.front,
    refl,
    key.spells,
    value.spells,
    subst (λ (e : List ℕ). SpellsPairs strict level m.front m.pairs e)
        (close_left a (held + 1) ∙ sym (close_left a held)) m.spells,
  );
  kept = p ∷ m.kept;
  added = m.added ∙ ap (λ (x : List Pair). x ++ m.kept) e ∙ append_assoc old (p ∷ []) m.kept;
  are = (
    record {
      key = subst (λ (x : List ℕ). Written rules level key.item x) (sym key.added) key.again;
      value = subst (λ (x : List ℕ). Written rules level value.item x) (sym value.added) value.again;
    },
    m.are,
  );
}

abbrev pub PairsMore : Rules → ℕ → Argument → List ℕ → List ℕ → List Pair → Type 0
PairsMore rules level a b rest kept = (after : List ℕ) (new : List Pair)
    → RewrittenPairs rules level (left_of a (length kept)) rest after kept new
    → RewrittenPairs rules level a b after [] new

pub pairs_start : (rules : Rules) (level : ℕ) (a : Argument) (b : List ℕ) (kept : List Pair) → kept ≡ []
    → PairsMore rules level a b b kept
pairs_start rules level a b kept e = subst (λ (x : List Pair). PairsMore rules level a b b x) (sym e)
    (λ after new m. record {
      pairs = m.pairs;
      front = m.front;
      parts = m.parts;
      count = count_at_first a (pair_count m.pairs) m.count;
      spells = subst (λ (x : List ℕ). SpellsPairs strict level m.front m.pairs x) (close_left a 0) m.spells;
      kept = m.kept;
      added = m.added;
      are = m.are;
    })

pub pairs_step : (rules : Rules) (level : ℕ) (a : Argument) (b rest r s : List ℕ) (p : Pair)
    (kept mid : List Pair)
    → PairsMore rules level a b rest kept → after_members (left_of a (length kept)) rest ≡ None
    → Rewritten rules level rest r [] p.key.items → Rewritten rules level r s [] p.value.items
    → mid ≡ kept ++ (p ∷ []) → PairsMore rules level a b s mid
pairs_step rules level a b rest r s p kept mid more none key value e = λ after new m.
    let longer : length mid ≡ length kept + 1 = omega (arith, ap length e, length-append kept (p ∷ [])) in
    more after new (pairs_more rules level a (length kept) rest r s after p kept mid new none key value e
    (subst (λ k. RewrittenPairs rules level (left_of a k) s after mid new) longer m))

pub pairs_whole : (rules : Rules) (level : ℕ) (a : Argument) (b rest after : List ℕ) (kept : List Pair)
    → PairsMore rules level a b rest kept → after_members (left_of a (length kept)) rest ≡ Some after
    → RewrittenPairs rules level a b after [] kept
pairs_whole rules level a b rest after kept more e =
    more after kept (pairs_end rules level (left_of a (length kept)) rest after kept e)

-- ---- a container as a whole

pub record Whole (major k : ℕ) (a : Argument) (b rest : List ℕ) (Members : List ℕ → List ℕ → Type 0) : Type 0 where
  pub front : List ℕ
  pub parts : b ≡ front ++ rest
  pub spells : MembersThen major k (count_width a) front Members

pub whole : (major k : ℕ) (a : Argument) (b r inner rest : List ℕ) (Members : List ℕ → List ℕ → Type 0)
    → ArgumentThen major a b r → r ≡ inner ++ rest → CountIs a k → Members inner (close a)
    → Whole major k a b rest Members
whole major k (Number n w) b r inner rest Members is parts count inside =
    let h = head major n w in
    record {
      front = h ++ inner;
      parts = is.2 ∙ ap (λ (x : List ℕ). h ++ x) (is.3 ∙ parts) ∙ sym (append_assoc h inner rest);
      spells = subst (λ j. HeadThen major j w (h ++ inner) (λ x. Members x [])) count (is.0, inner, refl, inside);
    }
whole major k Indefinite b r inner rest Members is parts count inside = record {
  front = opening major ∷ inner;
  parts = is ∙ ap (λ (x : List ℕ). opening major ∷ x) parts;
  spells = (inner, refl, inside);
}

-- a stated width of a count fits it
abbrev FitsOpen : Option IntegerWidth → ℕ → Type 0
FitsOpen (Some w) k = FitsStated w k
FitsOpen None k = Unit {0}

open_written : (major k : ℕ) (w : Option IntegerWidth) (written : List ℕ) (Members : List ℕ → List ℕ → Type 0)
    → FitsOpen w k → ((end : List ℕ) → Members (written ++ end) end)
    → MembersThen major k w (encoded_open major k w ++ (written ++ encoded_close w)) Members
open_written major k (Some w) written Members fits inside =
    (fits, written ++ [], ap (λ (x : List ℕ). x ++ (written ++ [])) (stated_head major k w fits), inside [])
open_written major k None written Members fits inside =
    (written ++ break_byte ∷ [], refl, inside (break_byte ∷ []))

-- the count of a container fits the width that it has
pub held_fits : (major : ℕ) (a : Argument) (k : ℕ) (b r : List ℕ) → ArgumentThen major a b r → CountIs a k
    → FitsHeld a k
held_fits major (Number n w) k b r is count = subst (λ j. FitsStated w j) count is.0
held_fits major Indefinite k b r is count = tt

shortest_open : (t : Bool) (k : ℕ) → k < 2 ^ 64 → FitsOpen (cond t (Some (shortest k)) None) k
shortest_open true k few = shortest_fits k few
shortest_open false k few = tt

count_fits : (rules : Rules) (a : Argument) (k : ℕ) → k < 2 ^ 64 → FitsHeld a k → FitsOpen (chosen_count rules a k) k
count_fits rules (Number n w) k few fits = chosen_fits rules k w fits
count_fits rules Indefinite k few fits = shortest_open rules.definite_lengths k few

pub array_done : (rules : Rules) (level : ℕ) (a : Argument) (b r after inner old new : List ℕ) (n : ℕ)
    → level ≤ deepest → n < 2 ^ 64 → ArgumentThen 4 a b r
    → RewrittenItems rules (level + 1) a r after [] inner n
    → new ≡ old ++ (encoded_open 4 n (chosen_count rules a n) ++ (inner ++ encoded_close (chosen_count rules a n)))
    → Rewritten rules level b after old new
array_done rules level a b r after inner old new n le few is m e =
    let v : Option IntegerWidth = chosen_count rules a n in
    let count = subst (λ k. CountIs a k) (sym m.number) m.count in
    let w = whole 4 (item_count m.items) a b r m.front after
    (λ x end. SpellsItems strict (level + 1) x m.items end) is m.parts count m.spells in
    let bytes : List ℕ = encoded_open 4 n v ++ (m.bytes ++ encoded_close v) in
    let fits = count_fits rules a n few (held_fits 4 a n b r is m.count) in
    let written = open_written 4 n v m.bytes (λ x end. SpellsItems strict (level + 1) x m.written end) fits
    m.written_spells in
    record {
      item = array m.items (count_width a);
      front = w.front;
      parts = w.parts;
      spells = (le, w.spells);
      bytes = bytes;
      added = e ∙ ap (λ (x : List ℕ). old ++ (encoded_open 4 n v ++ (x ++ encoded_close v))) m.added;
      again = record {
        item = array m.written v;
        spells = (
          le,
          subst (λ k. MembersThen 4 k v bytes (λ x end. SpellsItems strict (level + 1) x m.written end))
              (sym m.written_number) written,
        );
        same = m.same;
      };
    }

pairs_number : (rules : Rules) (level : ℕ) (ps : Pairs) (xs : List Pair) → PairsAre rules level ps xs
    → pair_count ps ≡ length xs
pairs_number rules level no_pairs [] h = refl
pairs_number rules level no_pairs (x ∷ xs) h = absurd h
pairs_number rules level (pair k v ps) [] h = absurd h
pairs_number rules level (pair k v ps) (x ∷ xs) h = ap suc (pairs_number rules level ps xs h.1)

-- the pairs of a map are as many as were kept
pub pairs_count : (rules : Rules) (level : ℕ) (a : Argument) (r after : List ℕ) (xs : List Pair)
    → RewrittenPairs rules level a r after [] xs → CountIs a (length xs)
pairs_count rules level a r after xs m =
    subst (λ k. CountIs a k)
    (pairs_number rules level m.pairs m.kept m.are ∙ ap (λ (x : List Pair). length x) (sym m.added)) m.count

pub map_done : (rules : Rules) (level : ℕ) (a : Argument) (b r after old new : List ℕ) (xs ys : List Pair)
    → level ≤ deepest → length ys < 2 ^ 64 → ArgumentThen 5 a b r
    → RewrittenPairs rules (level + 1) a r after [] xs → IsPermutation xs ys
    → new ≡ old ++ (encoded_open 5 (length ys) (chosen_count rules a (length ys))
    ++ (pair_bytes ys ++ encoded_close (chosen_count rules a (length ys))))
    → Rewritten rules level b after old new
map_done rules level a b r after old new xs ys le few is m moves e =
    let n : ℕ = length ys in
    let v : Option IntegerWidth = chosen_count rules a n in
    let o = ordered rules (level + 1) m.pairs xs ys
    (subst (λ (x : List Pair). PairsAre rules (level + 1) m.pairs x) (sym m.added) m.are) moves in
    let w = whole 5 (pair_count m.pairs) a b r m.front after
    (λ x end. SpellsPairs strict (level + 1) x m.pairs end) is m.parts m.count m.spells in
    let count : CountIs a n =
    subst (λ k. CountIs a k) (sym (length_permutation xs ys moves)) (pairs_count rules (level + 1) a r after xs m)
    in
    let bytes : List ℕ = encoded_open 5 n v ++ (pair_bytes ys ++ encoded_close v) in
    let fits = count_fits rules a n few (held_fits 5 a n b r is count) in
    let written = open_written 5 n v (pair_bytes ys) (λ x end. SpellsPairs strict (level + 1) x o.pairs end) fits
    o.spells in
    record {
      item = spec.map m.pairs (count_width a);
      front = w.front;
      parts = w.parts;
      spells = (le, w.spells);
      bytes = bytes;
      added = e;
      again = record {
        item = spec.map o.pairs v;
        spells = (
          le,
          subst (λ k. MembersThen 5 k v bytes (λ x end. SpellsPairs strict (level + 1) x o.pairs end)) (sym o.number)
              written,
        );
        same = o.same;
      };
    }

pub tag_done : (rules : Rules) (level t : ℕ) (w : IntegerWidth) (b r rest y old new : List ℕ) → level ≤ deepest
    → HeadThen 6 t w b (λ x. x ≡ r) → Rewritten rules (level + 1) r rest [] y
    → new ≡ old ++ tagged_bytes rules t w y → Rewritten rules level b rest old new
tag_done rules level t w b r rest y old new le h inner e =
    let h_bytes = head 6 t w in
    let i = inner.again in
    let is = sym inner.added in
    record {
      item = tagged t w inner.item;
      front = h_bytes ++ inner.front;
      parts = h.2 ∙ ap (λ (x : List ℕ). h_bytes ++ x) (h.3 ∙ inner.parts)
          ∙ sym (append_assoc h_bytes inner.front rest);
      spells = (le, (h.0, inner.front, refl, inner.spells));
      bytes = tagged_bytes rules t w y;
      added = e;
      again = tag_again rules level t w inner.item le h.0 y i.item
          (subst (λ (x : List ℕ). Spells strict (level + 1) x i.item) is i.spells) i.same;
    }

-- ---- items one after the other

pub sequence_end : (rules : Rules) (b old : List ℕ) → length b ≡ 0 → Sequence rules b old old
sequence_end rules (first ∷ b) old e = absurd (omega arith)
sequence_end rules [] old e = record {
  items = no_items;
  spells = refl;
  bytes = [];
  added = sym (append-nil old);
  written = no_items;
  written_spells = refl;
  same = tt;
}

pub sequence_more : (rules : Rules) (b r old mid new : List ℕ) → Rewritten rules 1 b r old mid
    → Sequence rules r mid new → Sequence rules b old new
sequence_more rules b r old mid new one m = record {
  items = item one.item m.items;
  spells = (one.front, r, one.parts, one.spells, m.spells);
  bytes = one.bytes ++ m.bytes;
  added = m.added ∙ ap (λ (x : List ℕ). x ++ m.bytes) one.added ∙ append_assoc old one.bytes m.bytes;
  written = item one.again.item m.written;
  written_spells = (one.bytes, m.bytes, refl, one.again.spells, m.written_spells);
  same = (one.again.same, m.same);
}
