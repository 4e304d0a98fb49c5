-- Reading the parts of an open container (`parts_from`) stops where the container ends or its next part is refused
-- (`Halted`). The bytes up to there encode the parts that were read (`Held`), if each part is read from bytes that
-- encode it (`Finds`) and leaves fewer bytes (`Shortens`).
use Rattle.std.proofs.Common.{◌≡◌, ℕ, zero, suc, ◌+◌, ◌<◌, List, [], ◌++◌, length, Option, Some, None, Ok, Err, ◌⊎◌}
use Rattle.std.proofs.Common.{inl, inr, refl, sym, ap, subst, ◌∙◌, append_assoc, append-nil, arith}
use Rattle.cbor_grammar.specs.declared.argument.Argument.{Argument}
use Rattle.cbor_grammar.specs.declared.argument.Argument.TheVariants.{Number, Indefinite}
use Rattle.cbor_grammar.specs.Item.{Item, Items, no_items, item, Pairs, no_pairs, pair, item_count, pair_count}
use Rattle.cbor_grammar.specs.Bytes.{any, Spells, SpellsItems, SpellsPairs}
use Rattle.cbor_grammar.specs.Reading.{Read, Counted, go_on, ◌>>-◌, joined, joined_pairs, Frame, items_in, pairs_in}
use Rattle.cbor_grammar.specs.Reading.{value_of, tag_of, tagged_with, one_less, put, after_members, after_end, closed}
use Rattle.cbor_grammar.specs.Reading.{close_or, parts_from}
use Rattle.cbor_grammar.proofs.bytes.Heads.{IsBytes}
use Rattle.cbor_grammar.proofs.bytes.Steps.{Shortens, open_or}

-- ---- members and pairs with one more at their end

items_more : (level : ℕ) (is : Items) (b y : List ℕ) (i : Item) → SpellsItems any level b is [] → Spells any level y i
    → SpellsItems any level (b ++ y) (joined is (item i no_items)) []
items_more level no_items b y i h s = (y, [], ap (λ (x : List ℕ). x ++ y) h ∙ sym (append-nil y), s, refl)
items_more level (item j is) b y i h s = (
  h.0,
  h.1 ++ y,
  ap (λ (x : List ℕ). x ++ y) h.2 ∙ append_assoc h.0 h.1 y,
  h.3,
  items_more level is h.1 y i h.4 s,
)

pairs_more : (level : ℕ) (ps : Pairs) (b y z : List ℕ) (k v : Item) → SpellsPairs any level b ps []
    → Spells any level y k → Spells any level z v
    → SpellsPairs any level (b ++ (y ++ z)) (joined_pairs ps (pair k v no_pairs)) []
pairs_more level no_pairs b y z k v h key value = (
  y,
  z,
  [],
  ap (λ (x : List ℕ). x ++ (y ++ z)) h ∙ ap (λ (x : List ℕ). y ++ x) (sym (append-nil z)),
  key,
  value,
  refl,
)
pairs_more level (pair j u ps) b y z k v h key value = (
  h.0,
  h.1,
  h.2 ++ (y ++ z),
  ap (λ (x : List ℕ). x ++ (y ++ z)) h.3 ∙ simp append_assoc,
  h.4,
  h.5,
  pairs_more level ps h.2 y z k v h.6 key value,
)

pub count_more : (is : Items) (i : Item) → item_count (joined is (item i no_items)) ≡ suc (item_count is)
count_more no_items i = refl
count_more (item j is) i = ap suc (count_more is i)

pub pair_count_more : (ps : Pairs) (k v : Item) → pair_count (joined_pairs ps (pair k v no_pairs)) ≡ suc (pair_count ps)
pair_count_more no_pairs k v = refl
pair_count_more (pair j u ps) k v = ap suc (pair_count_more ps k v)

-- ---- what is held

-- `k` more than are to come
abbrev pub and_more : ℕ → Argument → Argument
and_more k (Number n w) = Number (k + n) w
and_more k Indefinite = Indefinite

pub and_none : (a : Argument) → a ≡ and_more 0 a
and_none (Number n w) = let e : n ≡ 0 + n = omega arith in ap (λ m. Number m w) e
and_none Indefinite = refl

more_less : (k : ℕ) (a : Argument) (b : List ℕ) → after_members a b ≡ None
    → and_more k a ≡ and_more (suc k) (one_less a)
more_less k (Number zero w) b none = absurd cc
more_less k (Number (suc n) w) b none = let e : k + suc n ≡ suc k + n = omega arith in ap (λ m. Number m w) e
more_less k Indefinite b none = refl

-- these bytes spell what was read of the second container since it was the first, which its head opened; its parts are
-- at this level
abbrev pub Held : ℕ → Frame → Frame → List ℕ → Type 0
Held level (items_in js a) (items_in is left) b = (a ≡ and_more (item_count is) left) × SpellsItems any level b is []
Held level (pairs_in qs a) (pairs_in ps left) b = (a ≡ and_more (pair_count ps) left) × SpellsPairs any level b ps []
Held level (pairs_in qs a) (value_of ps k left) b = (a ≡ and_more (suc (pair_count ps)) left) × (x y : List ℕ)
    × (b ≡ x ++ y) × SpellsPairs any level x ps [] × Spells any level y k
Held level (tag_of t w) (tag_of s v) b = (t ≡ s) × (w ≡ v) × (b ≡ [])
Held level (tag_of t w) (tagged_with s v i) b = (t ≡ s) × (w ≡ v) × Spells any level b i
Held level _ _ b = ⊥

-- one part more
held_put : (level : ℕ) (f g : Frame) (b rest y : List ℕ) (i : Item) → after_end g rest ≡ None → Held level f g b
    → Spells any level y i → Held level f (put g i) (b ++ y)
held_put level (items_in js a) (items_in is left) b rest y i none h s = (
  rw (count_more is i) (h.0 ∙ more_less (item_count is) left rest none),
  items_more level is b y i h.1 s,
)
held_put level (pairs_in qs a) (pairs_in ps left) b rest y i none h s =
    (h.0 ∙ more_less (pair_count ps) left rest none, b, y, refl, h.1, s)
held_put level (pairs_in qs a) (value_of ps k left) b rest y i none h s = (
  rw (pair_count_more ps k i) h.0,
  rw (h.3, append_assoc h.1 h.2 y) (pairs_more level ps h.1 h.2 y k i h.4 h.5 s),
)
held_put level (tag_of t w) (tag_of u v) b rest y i none h s =
    (h.0, h.1, subst (λ (x : List ℕ). Spells any level (x ++ y) i) (sym h.2) s)
held_put level (tag_of t w) (tagged_with u v j) b rest y i none h s = absurd cc
held_put level f g b rest y i none h s = absurd h

-- ---- how reading the parts went

-- the container ends here, or a part that has to follow is refused
abbrev pub Ended : (List ℕ → Counted Item) → Frame → List ℕ → Read Item → Type 0
Ended read f b (Ok x) = (closed f ≡ Some x.0) × (after_end f b ≡ Some x.1)
Ended read f b (Err e) = (after_end f b ≡ None) × ((read b).1 ≡ Err e)

pub record Halted (level : ℕ) (read : List ℕ → Counted Item) (f : Frame) (b : List ℕ) (r : Read Item) : Type 0 where
  pub frame : Frame
  pub whole : List ℕ
  pub rest : List ℕ
  pub parts : b ≡ whole ++ rest
  pub held : Held level f frame whole
  pub fits : IsBytes rest
  pub ended : Ended read frame rest r

-- the item is in front of the rest
pub record Spelled (level : ℕ) (b : List ℕ) (i : Item) (rest : List ℕ) : Type 0 where
  pub front : List ℕ
  pub parts : b ≡ front ++ rest
  pub spells : Spells any level front i
  pub rest_bytes : IsBytes rest

-- each item that `read` reads is spelled so
abbrev pub Finds : ℕ → (List ℕ → Counted Item) → Type 0
Finds level read =
    (b : List ℕ) (i : Item) (rest : List ℕ) → IsBytes b → (read b).1 ≡ Ok (i, rest) → Spelled level b i rest

-- whether a container ends here
pub end_ways : (f : Frame) (b : List ℕ)
    → ((i : Item) × (after : List ℕ) × (closed f ≡ Some i) × (after_end f b ≡ Some after))
    ⊎ (after_end f b ≡ None)
end_ways f b = closes f (after_end f b) refl
  where
    closes : (g : Frame) (o : Option (List ℕ)) → after_end g b ≡ o
        → ((i : Item) × (after : List ℕ) × (closed g ≡ Some i) × (after_end g b ≡ Some after)) ⊎ (after_end g b ≡ None)
    closes g None e = inr e
    closes (items_in is left) (Some after) e = inl (_, after, refl, e)
    closes (pairs_in ps left) (Some after) e = inl (_, after, refl, e)
    closes (value_of ps k left) (Some after) e = inr refl
    closes (tag_of t w) (Some after) e = inr refl
    closes (tagged_with t w i) (Some after) e = inl (_, after, refl, e)

-- a container that ends is closed
pub close_ended : (i : Option Item) (j : Item) (o : Option (List ℕ)) (after : List ℕ) (more : Counted Item) → i ≡ Some j
    → o ≡ Some after → close_or i o more ≡ (1, Ok (j, after))
close_ended i j o after more is ends = rw (is, ends) refl

module _ (level : ℕ) (read : List ℕ → Counted Item) (finds : Finds level read) (short : Shortens read) where
  -- a part, and what follows it
  halt_next : (n : ℕ) (f g : Frame) (b whole rest : List ℕ) (r : Read Item) (t : ℕ) (o : Read Item) → b ≡ whole ++ rest
      → Held level f g whole → IsBytes rest → after_end g rest ≡ None → (read rest).1 ≡ o
      → ((h : Frame) (w s : List ℕ) → length s < length rest → b ≡ w ++ s → Held level f h w → IsBytes s
      → (parts_from n read h s).1 ≡ r → Halted level read f b r)
      → (go_on t o (λ i. parts_from n read (put g i.0) i.1)).1 ≡ r → Halted level read f b r
  halt_next n f g b whole rest r t (Ok x) parts held fits none is later e =
      let s = finds rest x.0 x.1 fits is in
      later (put g x.0) (whole ++ s.front) x.1 (short rest x is)
      (parts ∙ ap (λ (y : List ℕ). whole ++ y) s.parts ∙ sym (append_assoc whole s.front x.1))
      (held_put level f g whole rest s.front x.0 none held s.spells) s.rest_bytes e
  halt_next n f g b whole rest r t (Err d) parts held fits none is later e = subst (Halted level read f b) e (record {
    frame = g;
    whole = whole;
    rest = rest;
    parts = parts;
    held = held;
    fits = fits;
    ended = (none, is);
  })

  -- what was read before, and how the rest went
  pub parts_halt : (n : ℕ) (f g : Frame) (b whole rest : List ℕ) (r : Read Item) → length rest < n → b ≡ whole ++ rest
      → Held level f g whole → IsBytes rest → (parts_from n read g rest).1 ≡ r → Halted level read f b r
  unfolding parts_from
  parts_halt zero f g b whole rest r lt parts held fits e = absurd (omega arith)
  parts_halt (suc n) f g b whole rest r lt parts held fits e =
      let more : Counted Item = read rest >>- λ i. parts_from n read (put g i.0) i.1 in
      elim (end_ways g rest) [
        | inl ends ↦
            let is = close_ended (closed g) ends.0 (after_end g rest) ends.1 more ends.2 ends.3 in
            subst (Halted level read f b) (ap (λ (c : Counted Item). c.1) (sym is) ∙ e) (record {
              frame = g;
              whole = whole;
              rest = rest;
              parts = parts;
              held = held;
              fits = fits;
              ended = (ends.2, ends.3);
            })
        | inr none ↦
            let is = open_or (closed g) (after_end g rest) more none in
            halt_next n f g b whole rest r (read rest).0 (read rest).1 parts held fits none refl
            (λ h w s less p held fits e. parts_halt n f h b w s r (omega arith) p held fits e)
            (ap (λ (c : Counted Item). c.1) (sym is) ∙ e)
      ]
