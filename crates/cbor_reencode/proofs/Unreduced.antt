-- If an item keeps `CORE` without its order of keys (`loose`), its numbers are reduced already: any other item that is
-- the same as the reduced form of this one (`reduced_item`) is the same as this one. A tag stays as it is if its item
-- is no content of a big number (`content_of`).
use Rattle.std.proofs.Common.{◌≡◌, ◌≢◌, ℕ, ◌+◌, ◌*◌, ◌^◌, ◌<◌, ◌≤◌, ◌⊎◌, Bool, true, false, cond, ltb, eqb, List, []}
use Rattle.std.proofs.Common.{◌∷◌}
use Rattle.std.proofs.Common.{length, get_or, Option, Some, None, inl, inr, refl, sym, ap, subst, ◌∙◌, arith}
use Rattle.std.specs.Prelude.{◌||◌}
use Rattle.std.proofs.lemmas.Bool.{eqb-true, ltb-true, ne_eqb}
use Rattle.cbor_grammar.specs.declared.width.IntegerWidth.{IntegerWidth}
use Rattle.cbor_grammar.specs.declared.width.IntegerWidth.TheVariants as width
use Rattle.cbor_grammar.specs.declared.strings.StringKind.TheVariants.{Bytes, Text}
use Rattle.cbor_grammar.specs.Item as spec
use Rattle.cbor_grammar.specs.Item.{Chunk, Atom, integer, negative, string, chunked_string, float, simple, Item, atom}
use Rattle.cbor_grammar.specs.Item.{array, tagged, Items, no_items, item, Pairs, no_pairs, pair, item_count, pair_count}
use Rattle.cbor_grammar.specs.Reading.{joined_pairs}
use Rattle.cbor_rules.specs.declared.rules.Rules.{Rules}
use Rattle.cbor_rules.specs.declared.rules.TheConstants.Rules.{CORE}
use Rattle.cbor_rules.specs.Keeps.{Keeps, KeepsItems, KeepsPairs, without_memory}
use Rattle.cbor_rules.specs.Same.{whole, IsSame, SameItems, SamePairs}
use Rattle.cbor_reencode.specs.Reduction.{reduced_atom, big_endian, without_zeros, content_of, small_number, big_or}
use Rattle.cbor_reencode.specs.Reduction.{is_big, reduced_tag, reduced_item, reduced_items, reduced_pairs}
use Rattle.cbor_reencode.specs.Reencoded.{MapsApart}
use Rattle.cbor_reencode.specs.mirror.Twice.{unordered}
use Rattle.cbor_reencode.proofs.BigNumbers.{grows}
use Rattle.cbor_reencode.proofs.Kept.{AsksLess}
use Rattle.cbor_reencode.proofs.Sorted.{reduced_joined}

-- the rules that what is encoded keeps
abbrev pub core : Rules
core = without_memory CORE

-- those that make the form of a number the one
abbrev pub loose : Rules
loose = unordered false

pub core_loose : AsksLess core loose
core_loose = record {
  heads = λ on. on;
  floats = λ on. on;
  reduced = λ on. on;
  simple = λ on. on;
  lengths = λ on. on;
  big = λ on. on;
  nfc = λ on. on;
  order = inl refl;
  distinct = λ on. on;
  tags = λ on. on;
  deepest = refl;
}

-- no float is reduced
same_atom : (a : Atom) → reduced_atom CORE a ≡ a
same_atom (integer n w) = refl
same_atom (negative n w) = refl
same_atom (string kind c) = refl
same_atom (chunked_string kind cs) = refl
same_atom (float bits w) = refl
same_atom (simple n) = refl

-- ---- tags

small_none : (n : ℕ) (s : Bool) → content_of (atom (cond s (negative n width.Unknown) (integer n width.Unknown))) ≡ None
small_none n true = refl
small_none n false = refl

big_none : (t : ℕ) (c : List ℕ) (s : Bool) → content_of (cond s (atom (small_number t (big_endian 0 c)))
    (tagged t width.Unknown (atom (string Bytes (whole (without_zeros c)))))) ≡ None
big_none t c true = small_none (big_endian 0 c) (eqb t 3)
big_none t c false = refl

tag_none : (t : ℕ) (w : IntegerWidth) (i : Item) (s : Bool) (o : Option (List ℕ))
    → content_of (cond s (big_or t o (tagged t w i)) (tagged t w i)) ≡ None
tag_none t w i true None = refl
tag_none t w i true (Some c) = big_none t c (ltb (big_endian 0 c) (2 ^ 64))
tag_none t w i false o = refl

-- a tag is no content of a big number
tagged_none : (t : ℕ) (w : IntegerWidth) (i : Item) → content_of (reduced_item CORE (tagged t w i)) ≡ None
tagged_none t w i = tag_none t w (reduced_item CORE i) (is_big CORE t) (content_of (reduced_item CORE i))

-- nor is an item with a map in it
pub no_content : (i : Item) → (content_of (reduced_item CORE i) ≡ None) ⊎ MapsApart i
no_content (atom a) = inr tt
no_content (array is w) = inl refl
no_content (spec.map ps w) = inl refl
no_content (tagged t w i) = inl (tagged_none t w i)

either_way : (s : Bool) (i : Item) → cond s i i ≡ i
either_way true i = refl
either_way false i = refl

-- a tag before what is no such content
pub tag_stays : (t : ℕ) (w : IntegerWidth) (i : Item) → content_of i ≡ None → reduced_tag CORE t w i ≡ tagged t w i
tag_stays t w i none =
    ap (λ (o : Option (List ℕ)). cond (is_big CORE t) (big_or t o (tagged t w i)) (tagged t w i)) none
    ∙ either_way (is_big CORE t) (tagged t w i)

-- ---- big numbers

two_or_three : (t : ℕ) → is_big CORE t ≡ true → (t ≡ 2) ⊎ (t ≡ 3)
two_or_three t e = by (eqb t 2) (eqb t 3) refl refl e
  where
    by : (p q : Bool) → eqb t 2 ≡ p → eqb t 3 ≡ q → (p || q) ≡ true → (t ≡ 2) ⊎ (t ≡ 3)
    by true q is other e = inl (eqb-true t 2 is)
    by false true is other e = inr (eqb-true t 3 other)
    by false false is other e = absurd cc

-- more than 8 bytes without a zero byte in front are a number of more than 64 bits
large : (c : List ℕ) → 8 < length c → get_or c 0 0 ≢ 0 → 2 ^ 64 ≤ big_endian 0 c
large [] many first = absurd (omega arith)
large (a ∷ []) many first = absurd (omega (arith, many))
large (a ∷ b ∷ []) many first = absurd (omega (arith, many))
large (a ∷ b ∷ c ∷ []) many first = absurd (omega (arith, many))
large (a ∷ b ∷ c ∷ d ∷ []) many first = absurd (omega (arith, many))
large (a ∷ b ∷ c ∷ d ∷ e ∷ []) many first = absurd (omega (arith, many))
large (a ∷ b ∷ c ∷ d ∷ e ∷ f ∷ []) many first = absurd (omega (arith, many))
large (a ∷ b ∷ c ∷ d ∷ e ∷ f ∷ g ∷ []) many first = absurd (omega (arith, many))
large (a ∷ b ∷ c ∷ d ∷ e ∷ f ∷ g ∷ h ∷ []) many first = absurd (omega (arith, many))
large (a ∷ b ∷ c ∷ d ∷ e ∷ f ∷ g ∷ h ∷ i ∷ r) many first =
    let some : 0 < a = omega (arith, first) in
    let four = 256 * (256 * (256 * (256 * (256 * 0 + a) + b) + c) + d) + e in
    let eight = 256 * (256 * (256 * (256 * four + f) + g) + h) + i in
    omega (arith, some, grows eight r)

no_zeros : (c : List ℕ) → 8 < length c → get_or c 0 0 ≢ 0 → without_zeros c ≡ c
no_zeros [] many first = refl
no_zeros (d ∷ c) many first = ap (λ (s : Bool). cond s (without_zeros c) (d ∷ c)) (ne_eqb d 0 first)

not_less : (n m : ℕ) → m ≤ n → ltb n m ≡ false
not_less n m le = by (ltb n m) refl
  where
    by : (s : Bool) → ltb n m ≡ s → ltb n m ≡ false
    by false is = is
    by true is = absurd (omega (arith, le, ltb-true n m is))

-- a tag is a tag once it is reduced, and what is the same as its content then is the same as its content
record TagIs (t : ℕ) (i j : Item) : Type 0 where
  pub width : IntegerWidth
  pub content : Item
  pub is : j ≡ tagged t width content
  pub back : (y : Item) → IsSame true y content → IsSame true y (reduced_item CORE i)

plain : (t : ℕ) (w : IntegerWidth) (i : Item) → content_of (reduced_item CORE i) ≡ None
    → TagIs t i (reduced_item CORE (tagged t w i))
plain t w i none = record {
  width = w;
  content = reduced_item CORE i;
  is = tag_stays t w (reduced_item CORE i) none;
  back = λ y same. same;
}

whole_same : (y : Item) (c : Chunk) → IsSame true y (atom (string Bytes (whole c.bytes)))
    → IsSame true y (atom (string Bytes c))
whole_same (atom a) c same = same
whole_same (array is w) c same = absurd same
whole_same (spec.map ps w) c same = absurd same
whole_same (tagged t w i) c same = absurd same

big : (t : ℕ) (w : IntegerWidth) (c : Chunk) (level : ℕ) → Keeps loose level (tagged t w (atom (string Bytes c)))
    → (s : Bool) → is_big CORE t ≡ s
    → TagIs t (atom (string Bytes c)) (reduced_item CORE (tagged t w (atom (string Bytes c))))
big t w c level keeps false is = record {
  width = w;
  content = atom (string Bytes c);
  is = ap (λ (s : Bool). cond s (big_or t (Some c.bytes) (tagged t w (atom (string Bytes c))))
      (tagged t w (atom (string Bytes c)))) is;
  back = λ y same. same;
}
big t w c level keeps true is =
    let kept = keeps.2 refl (two_or_three t is) in
    let none = no_zeros c.bytes kept.0 kept.1 in
    let much = not_less (big_endian 0 c.bytes) (2 ^ 64) (large c.bytes kept.0 kept.1) in
    let form : Item = tagged t width.Unknown (atom (string Bytes (whole (without_zeros c.bytes)))) in
    record {
      width = width.Unknown;
      content = atom (string Bytes (whole (without_zeros c.bytes)));
      is = ap (λ (s : Bool). cond s (big_or t (Some c.bytes) (tagged t w (atom (string Bytes c))))
          (tagged t w (atom (string Bytes c)))) is
          ∙ ap (λ (s : Bool). cond s (atom (small_number t (big_endian 0 c.bytes))) form) much;
      back = λ y same. whole_same y c
          (subst (λ (b : List ℕ). IsSame true y (atom (string Bytes (whole b)))) none same);
    }

tag_is : (t : ℕ) (w : IntegerWidth) (i : Item) (level : ℕ) → Keeps loose level (tagged t w i)
    → TagIs t i (reduced_item CORE (tagged t w i))
tag_is t w (atom (string Bytes c)) level keeps = big t w c level keeps (is_big CORE t) refl
tag_is t w (atom (string Text c)) level keeps = plain t w (atom (string Text c)) refl
tag_is t w (atom (chunked_string kind cs)) level keeps = absurd (keeps.3.0 refl)
tag_is t w (atom (integer n v)) level keeps = plain t w (atom (integer n v)) refl
tag_is t w (atom (negative n v)) level keeps = plain t w (atom (negative n v)) refl
tag_is t w (atom (float bits v)) level keeps = plain t w (atom (float bits v)) refl
tag_is t w (atom (simple n)) level keeps = plain t w (atom (simple n)) refl
tag_is t w (array is v) level keeps = plain t w (array is v) refl
tag_is t w (spec.map ps v) level keeps = plain t w (spec.map ps v) refl
tag_is t w (tagged u v i) level keeps = plain t w (tagged u v i) (tagged_none u v i)

-- ---- pairs

pub first_key : (k l v w : Item) (ps qs : Pairs) → pair k v ps ≡ pair l w qs → k ≡ l
first_key k l v w ps qs e = cc

pub first_value : (k l v w : Item) (ps qs : Pairs) → pair k v ps ≡ pair l w qs → v ≡ w
first_value k l v w ps qs e = cc

pub other_pairs : (k l v w : Item) (ps qs : Pairs) → pair k v ps ≡ pair l w qs → ps ≡ qs
other_pairs k l v w ps qs e = cc

-- the pair that is this one once it is reduced
record Before (qs before after : Pairs) (l w : Item) : Type 0 where
  pub front : Pairs
  pub back : Pairs
  pub key : Item
  pub value : Item
  pub is : qs ≡ joined_pairs front (pair key value back)
  pub front_is : reduced_pairs CORE front ≡ before
  pub back_is : reduced_pairs CORE back ≡ after
  pub key_is : reduced_item CORE key ≡ l
  pub value_is : reduced_item CORE value ≡ w

before_it : (qs before after : Pairs) (l w : Item) → reduced_pairs CORE qs ≡ joined_pairs before (pair l w after)
    → Before qs before after l w
before_it no_pairs no_pairs after l w e = absurd cc
before_it no_pairs (pair m x before) after l w e = absurd cc
before_it (pair k v qs) no_pairs after l w e = record {
  front = no_pairs;
  back = qs;
  key = k;
  value = v;
  is = refl;
  front_is = refl;
  back_is = other_pairs (reduced_item CORE k) l (reduced_item CORE v) w (reduced_pairs CORE qs) after e;
  key_is = first_key (reduced_item CORE k) l (reduced_item CORE v) w (reduced_pairs CORE qs) after e;
  value_is = first_value (reduced_item CORE k) l (reduced_item CORE v) w (reduced_pairs CORE qs) after e;
}
before_it (pair k v qs) (pair m x before) after l w e =
    let rest = joined_pairs before (pair l w after) in
    let key = first_key (reduced_item CORE k) m (reduced_item CORE v) x (reduced_pairs CORE qs) rest e in
    let value = first_value (reduced_item CORE k) m (reduced_item CORE v) x (reduced_pairs CORE qs) rest e in
    let b = before_it qs before after l w
    (other_pairs (reduced_item CORE k) m (reduced_item CORE v) x (reduced_pairs CORE qs) rest e) in
    record {
      front = pair k v b.front;
      back = b.back;
      key = b.key;
      value = b.value;
      is = ap (λ (q : Pairs). pair k v q) b.is;
      front_is = ap (λ (i : Item). pair i (reduced_item CORE v) (reduced_pairs CORE b.front)) key
          ∙ ap (λ (i : Item). pair m i (reduced_pairs CORE b.front)) value
          ∙ ap (λ (q : Pairs). pair m x q) b.front_is;
      back_is = b.back_is;
      key_is = b.key_is;
      value_is = b.value_is;
    }

-- a pair among others that keep the rules
record KeepsOne (level : ℕ) (before after : Pairs) (k v : Item) : Type 0 where
  pub key : Keeps loose level k
  pub value : Keeps loose level v
  pub others : KeepsPairs loose level (joined_pairs before after)

keeps_one : (level : ℕ) (before after : Pairs) (k v : Item)
    → KeepsPairs loose level (joined_pairs before (pair k v after)) → KeepsOne level before after k v
keeps_one level no_pairs after k v h = record { key = h.0; value = h.1; others = h.2 }
keeps_one level (pair l w before) after k v h =
    let t = keeps_one level before after k v h.2 in
    record { key = t.key; value = t.value; others = (h.0, h.1, t.others) }

none_reduced : (qs : Pairs) → reduced_pairs CORE qs ≡ no_pairs → qs ≡ no_pairs
none_reduced no_pairs e = refl
none_reduced (pair k v qs) e = absurd cc

-- ---- items

mutual
  pub unreduced : (y a : Item) (level : ℕ) → Keeps loose level a → IsSame true y (reduced_item CORE a) → IsSame true y a
  unreduced y (atom a) level g same = subst (λ (b : Atom). IsSame true y (atom b)) (same_atom a) same
  unreduced (array is w) (array js v) level g same = unreduced_items is js (level + 1) g.2 same
  unreduced (spec.map ps w) (spec.map qs v) level g same = unreduced_pairs ps qs (level + 1) g.2 same
  unreduced (tagged u v y) (tagged t w i) level g same =
      let k = tag_is t w i level g in
      let s : IsSame true (tagged u v y) (tagged t k.width k.content) =
      subst (λ (j : Item). IsSame true (tagged u v y) j) k.is same in
      (s.0, unreduced y i (level + 1) g.3 (k.back y s.1))
  unreduced (atom a) (array js v) level g same = absurd same
  unreduced (atom a) (spec.map qs v) level g same = absurd same
  unreduced (atom a) (tagged t w i) level g same =
      absurd (subst (λ (j : Item). IsSame true (atom a) j) (tag_is t w i level g).is same)
  unreduced (array is w) (spec.map qs v) level g same = absurd same
  unreduced (array is w) (tagged t v i) level g same =
      absurd (subst (λ (j : Item). IsSame true (array is w) j) (tag_is t v i level g).is same)
  unreduced (spec.map ps w) (array js v) level g same = absurd same
  unreduced (spec.map ps w) (tagged t v i) level g same =
      absurd (subst (λ (j : Item). IsSame true (spec.map ps w) j) (tag_is t v i level g).is same)
  unreduced (tagged u v y) (array js w) level g same = absurd same
  unreduced (tagged u v y) (spec.map qs w) level g same = absurd same

  pub unreduced_items : (is js : Items) (level : ℕ) → KeepsItems loose level js
      → SameItems true is (reduced_items CORE js) → SameItems true is js
  unreduced_items no_items no_items level g same = tt
  unreduced_items (item i is) (item j js) level g same =
      (unreduced i j level g.0 same.0, unreduced_items is js level g.1 same.1)
  unreduced_items no_items (item j js) level g same = absurd same
  unreduced_items (item i is) no_items level g same = absurd same

  unreduced_pairs : (ps qs : Pairs) (level : ℕ) → KeepsPairs loose level qs
      → SamePairs true ps (reduced_pairs CORE qs) → SamePairs true ps qs
  unreduced_pairs no_pairs qs level g same = none_reduced qs same
  unreduced_pairs (pair k v ps) qs level g same =
      let b = before_it qs same.0 same.1 same.2 same.3 same.4 in
      let t = keeps_one level b.front b.back b.key b.value (subst (KeepsPairs loose level) b.is g) in
      let rest : reduced_pairs CORE (joined_pairs b.front b.back) ≡ joined_pairs same.0 same.1 =
      reduced_joined CORE level b.front b.back
      ∙ ap (λ (q : Pairs). joined_pairs q (reduced_pairs CORE b.back)) b.front_is
      ∙ ap (λ (q : Pairs). joined_pairs same.0 q) b.back_is in (
        b.front,
        b.back,
        b.key,
        b.value,
        b.is,
        unreduced k b.key level t.key (subst (λ (i : Item). IsSame true k i) (sym b.key_is) same.5),
        unreduced v b.value level t.value (subst (λ (i : Item). IsSame true v i) (sym b.value_is) same.6),
        unreduced_pairs ps (joined_pairs b.front b.back) level t.others
            (subst (λ (q : Pairs). SamePairs true ps q) (sym rest) same.7),
      )
