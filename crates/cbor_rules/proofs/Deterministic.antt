-- If the rules ask for the shortest heads, definite lengths and an order of keys (`IsDeterministic`), two inputs that
-- keep them are the same bytes if their items are the same (`SameItems`) but for widths, kinds of length and the order
-- of pairs. The widths of floats may differ only if the rules ask for the shortest floats.
use Rattle.std.proofs.Common.{◌≡◌, ◌≢◌, ℕ, ◌+◌, Bool, true, false, List, [], ◌++◌, Option, Some, None}
use Rattle.std.proofs.Common.{length, refl, sym, ap, subst, ◌∙◌}
use Rattle.cbor_grammar.specs.declared.width.IntegerWidth.{IntegerWidth}
use Rattle.cbor_grammar.specs.declared.width.FloatWidth.{FloatWidth}
use Rattle.cbor_grammar.specs.declared.width.FloatWidth.TheVariants as float_width
use Rattle.cbor_grammar.specs.declared.strings.StringKind.{StringKind}
use Rattle.cbor_grammar.specs.Head.{shortest}
use Rattle.cbor_grammar.specs.Item as spec
use Rattle.cbor_grammar.specs.Item.{Chunk, Atom, integer, negative, string, chunked_string, float, simple, Item, atom}
use Rattle.cbor_grammar.specs.Item.{array, tagged, Items, no_items, item, Pairs, no_pairs, pair, item_count, pair_count}
use Rattle.cbor_grammar.specs.Bytes.{strict, SpellsFloat, MembersThen, Spells, SpellsItems, SpellsPairs}
use Rattle.cbor_grammar.specs.Reading.{joined_pairs}
use Rattle.cbor_grammar.proofs.bytes.Strict.{strict_only}
use Rattle.cbor_floats.specs.Preferred.{widened, FitsWidth, IsPreferred}
use Rattle.cbor_floats.proofs.Shorter.{preferred_once}
use Rattle.cbor_rules.specs.declared.rules.Rules.{Rules}
use Rattle.cbor_rules.specs.Keeps.{float_of, KeepsNumber, KeepsCount, KeepsAtom, Keeps, KeepsItems}
use Rattle.cbor_rules.specs.Keeps.{KeepsPairs}
use Rattle.cbor_grammar.specs.declared.width.IntegerWidth.TheVariants.{Unknown}
use Rattle.cbor_rules.specs.Same.{whole, said_float, said, IsSame, SameItems, SamePairs, IsDeterministic, AreKept}
use Rattle.cbor_rules.proofs.SortedPairs.{SameSet, same_set}

-- ---- items that bytes spell and that keep the rules

abbrev pub Good : Rules → ℕ → Item → Type 0
Good rules level i = ((x : List ℕ) × Spells strict level x i) × Keeps rules level i

abbrev pub GoodItems : Rules → ℕ → Items → Type 0
GoodItems rules level no_items = Unit {0}
GoodItems rules level (item i is) = Good rules level i × GoodItems rules level is

abbrev pub GoodPairs : Rules → ℕ → Pairs → Type 0
GoodPairs rules level no_pairs = Unit {0}
GoodPairs rules level (pair k v ps) = Good rules level k × Good rules level v × GoodPairs rules level ps

pub good_items : (rules : Rules) (level : ℕ) (b end : List ℕ) (is : Items) → SpellsItems strict level b is end
    → KeepsItems rules level is → GoodItems rules level is
good_items rules level b end no_items h keeps = tt
good_items rules level b end (item i is) h keeps =
    (((h.0, h.3), keeps.0), good_items rules level h.1 end is h.4 keeps.1)

pub good_pairs : (rules : Rules) (level : ℕ) (b end : List ℕ) (ps : Pairs) → SpellsPairs strict level b ps end
    → KeepsPairs rules level ps → GoodPairs rules level ps
good_pairs rules level b end no_pairs h keeps = tt
good_pairs rules level b end (pair k v ps) h keeps =
    (((h.0, h.4), keeps.0), ((h.1, h.5), keeps.1), good_pairs rules level h.2 end ps h.6 keeps.2)

-- the members of a container, of definite length or not
pub members_of : (major n : ℕ) (w : Option IntegerWidth) (x : List ℕ) (Members : List ℕ → List ℕ → Type 0)
    → MembersThen major n w x Members → (b end : List ℕ) × Members b end
members_of major n (Some w) x Members h = (h.1, [], h.3)
members_of major n None x Members h = (h.0, _, h.2)

-- a pair among others
pub record Taken (rules : Rules) (level : ℕ) (before after : Pairs) (k v : Item) : Type 0 where
  pub key : Good rules level k
  pub value : Good rules level v
  pub others : GoodPairs rules level (joined_pairs before after)

pub taken : (rules : Rules) (level : ℕ) (before after : Pairs) (k v : Item)
    → GoodPairs rules level (joined_pairs before (pair k v after)) → Taken rules level before after k v
taken rules level no_pairs after k v h = record { key = h.0; value = h.1; others = h.2 }
taken rules level (pair l w before) after k v h =
    let t = taken rules level before after k v h.2 in
    record { key = t.key; value = t.value; others = (h.0, h.1, t.others) }

-- ---- floats

float_fits : (x : List ℕ) (bits : ℕ) (w : FloatWidth) → SpellsFloat x bits w → FitsWidth (float_of bits w)
float_fits x bits float_width.Unknown h = absurd h
float_fits x bits float_width.Sixteen h = h.0
float_fits x bits float_width.ThirtyTwo h = h.0
float_fits x bits float_width.SixtyFour h = h.0

-- a float has its bits and its width
float_again : (x y : List ℕ) (a b : ℕ) (w v : FloatWidth) → SpellsFloat x a w → SpellsFloat y b v
    → float_of a w ≡ float_of b v → float a w ≡ float b v
float_again x y a b float_width.Unknown v h k e = absurd h
float_again x y a b w float_width.Unknown h k e = absurd k
float_again x y a b float_width.Sixteen float_width.Sixteen h k e = (let same : a ≡ b = cc in cc)
float_again x y a b float_width.ThirtyTwo float_width.ThirtyTwo h k e = (let same : a ≡ b = cc in cc)
float_again x y a b float_width.SixtyFour float_width.SixtyFour h k e = (let same : a ≡ b = cc in cc)
float_again x y a b float_width.Sixteen float_width.ThirtyTwo h k e = absurd cc
float_again x y a b float_width.Sixteen float_width.SixtyFour h k e = absurd cc
float_again x y a b float_width.ThirtyTwo float_width.Sixteen h k e = absurd cc
float_again x y a b float_width.ThirtyTwo float_width.SixtyFour h k e = absurd cc
float_again x y a b float_width.SixtyFour float_width.Sixteen h k e = absurd cc
float_again x y a b float_width.SixtyFour float_width.ThirtyTwo h k e = absurd cc

float_once : (t : Bool) (x y : List ℕ) (a b : ℕ) (w v : FloatWidth) → SpellsFloat x a w → SpellsFloat y b v
    → (t ≡ true → IsPreferred (float_of a w)) → (t ≡ true → IsPreferred (float_of b v))
    → said_float t a w ≡ said_float t b v → float a w ≡ float b v
float_once false x y a b w v h k p q e = e
float_once true x y a b w v h k p q e =
    let same : widened (float_of a w) ≡ widened (float_of b v) = cc in
    float_again x y a b w v h k
    (preferred_once (float_of a w) (float_of b v) (float_fits x a w h) (float_fits y b v k) (p refl) (q refl) same)

float_said : (t : Bool) (bits : ℕ) (w : FloatWidth) → (m : ℕ) × (v : FloatWidth) × (said_float t bits w ≡ float m v)
float_said true bits w = (widened (float_of bits w), float_width.SixtyFour, refl)
float_said false bits w = (bits, w, refl)

chunk_once : (c e : Chunk) → c.bytes ≡ e.bytes → c.width ≡ e.width → c ≡ e
chunk_once c e bytes width = λ i. record { bytes = bytes i; width = width i }

-- ---- items

module _ (rules : Rules) (d : IsDeterministic rules) where
  width_once : (n m : ℕ) (w v : IntegerWidth) → KeepsNumber rules n w → KeepsNumber rules m v → n ≡ m → w ≡ v
  width_once n m w v h k e = h d.heads ∙ ap shortest e ∙ sym (k d.heads)

  -- what says a number, a string or a simple value says no float
  no_float : (a : Atom) (bits : ℕ) (w : FloatWidth) → a ≡ said rules.shortest_floats (float bits w)
      → ((m : ℕ) (v : FloatWidth) → a ≢ float m v) → ⊥
  no_float a bits w e other =
      let s = float_said rules.shortest_floats bits w in other s.0 s.1 (e ∙ s.2)

  integer_once : (n : ℕ) (w : IntegerWidth) (b : Atom) → KeepsNumber rules n w → KeepsAtom rules b
      → integer n Unknown ≡ said rules.shortest_floats b → integer n w ≡ b
  integer_once n w (integer m v) h k e =
      let same : n ≡ m = cc in let width = width_once n m w v h k same in cc
  integer_once n w (negative m v) h k e = absurd cc
  integer_once n w (string kind c) h k e = absurd cc
  integer_once n w (chunked_string kind cs) h k e = absurd cc
  integer_once n w (float bits v) h k e = absurd (no_float (integer n Unknown) bits v e (λ m u f. cc))
  integer_once n w (simple m) h k e = absurd cc

  negative_once : (n : ℕ) (w : IntegerWidth) (b : Atom) → KeepsNumber rules n w → KeepsAtom rules b
      → negative n Unknown ≡ said rules.shortest_floats b → negative n w ≡ b
  negative_once n w (negative m v) h k e =
      let same : n ≡ m = cc in let width = width_once n m w v h k same in cc
  negative_once n w (integer m v) h k e = absurd cc
  negative_once n w (string kind c) h k e = absurd cc
  negative_once n w (chunked_string kind cs) h k e = absurd cc
  negative_once n w (float bits v) h k e = absurd (no_float (negative n Unknown) bits v e (λ m u f. cc))
  negative_once n w (simple m) h k e = absurd cc

  string_once : (kind : StringKind) (c : Chunk) (b : Atom) → KeepsNumber rules (length c.bytes) c.width
      → KeepsAtom rules b → string kind (whole c.bytes) ≡ said rules.shortest_floats b → string kind c ≡ b
  string_once kind c (string other f) h k e =
      let same_kind : kind ≡ other = cc in
      let same_whole : whole c.bytes ≡ whole f.bytes = cc in
      let bytes : c.bytes ≡ f.bytes = ap (λ (x : Chunk). x.bytes) same_whole in
      let width = width_once (length c.bytes) (length f.bytes) c.width f.width h k.0 (ap (λ (x : List ℕ). length x)
      bytes)
      in
      let chunk = chunk_once c f bytes width in
      cc
  string_once kind c (chunked_string other cs) h k e = absurd (k.0 d.lengths)
  string_once kind c (integer m v) h k e = absurd cc
  string_once kind c (negative m v) h k e = absurd cc
  string_once kind c (float bits v) h k e = absurd (no_float (string kind (whole c.bytes)) bits v e (λ m u f. cc))
  string_once kind c (simple m) h k e = absurd cc

  simple_once : (n : ℕ) (b : Atom) → KeepsAtom rules b → simple n ≡ said rules.shortest_floats b → simple n ≡ b
  simple_once n (simple m) k e = e
  simple_once n (chunked_string other cs) k e = absurd cc
  simple_once n (integer m v) k e = absurd cc
  simple_once n (negative m v) k e = absurd cc
  simple_once n (string kind c) k e = absurd cc
  simple_once n (float bits v) k e = absurd (no_float (simple n) bits v e (λ m u f. cc))

  atom_once : (level : ℕ) (a b : Atom) → Good rules level (atom a) → Good rules level (atom b)
      → said rules.shortest_floats a ≡ said rules.shortest_floats b → a ≡ b
  atom_once level (integer n w) b g h e = integer_once n w b g.1 h.1 e
  atom_once level (negative n w) b g h e = negative_once n w b g.1 h.1 e
  atom_once level (string kind c) b g h e = string_once kind c b g.1.0 h.1 e
  atom_once level (chunked_string kind cs) b g h e = absurd (g.1.0 d.lengths)
  atom_once level (simple n) b g h e = simple_once n b h.1 e
  atom_once level (float bits w) (float other v) g h e =
      float_once rules.shortest_floats g.0.0 h.0.0 bits other w v g.0.1.1 h.0.1.1 g.1.1 h.1.1 e
  atom_once level (float bits w) (integer m v) g h e =
      absurd (no_float (integer m Unknown) bits w (sym e) (λ m u f. cc))
  atom_once level (float bits w) (negative m v) g h e =
      absurd (no_float (negative m Unknown) bits w (sym e) (λ m u f. cc))
  atom_once level (float bits w) (string kind c) g h e =
      absurd (no_float (string kind (whole c.bytes)) bits w (sym e) (λ m u f. cc))
  atom_once level (float bits w) (chunked_string kind cs) g h e = absurd (h.1.0 d.lengths)
  atom_once level (float bits w) (simple m) g h e = absurd (no_float (simple m) bits w (sym e) (λ m u f. cc))

  count_once : (n m : ℕ) (w v : Option IntegerWidth) → KeepsCount rules n w → KeepsCount rules m v → n ≡ m → w ≡ v
  count_once n m (Some w) (Some v) h k e = ap Some (h d.heads ∙ ap shortest e ∙ sym (k d.heads))
  count_once n m None v h k e = absurd (h d.lengths)
  count_once n m (Some w) None h k e = absurd (k d.lengths)

  mutual
    pub item_once : (i j : Item) (level : ℕ) → Good rules level i → Good rules level j
        → IsSame rules.shortest_floats i j → i ≡ j
    item_once (atom a) (atom b) level g h same = ap atom (atom_once level a b g h same)
    item_once (array is w) (array js v) level g h same =
        let x = members_of 4 (item_count is) w g.0.0 _ g.0.1.1 in
        let y = members_of 4 (item_count js) v h.0.0 _ h.0.1.1 in
        let inner = items_once is js (level + 1) (good_items rules (level + 1) x.0 x.1 is x.2 g.1.2)
        (good_items rules (level + 1) y.0 y.1 js y.2 h.1.2) same in
        ap (λ (ks : Items). array ks w) inner
        ∙ ap (array js) (count_once (item_count is) (item_count js) w v g.1.1 h.1.1 (ap item_count inner))
    item_once (spec.map ps w) (spec.map qs v) level g h same =
        let x = members_of 5 (pair_count ps) w g.0.0 _ g.0.1.1 in
        let y = members_of 5 (pair_count qs) v h.0.0 _ h.0.1.1 in
        let set = pairs_once ps qs (level + 1) (good_pairs rules (level + 1) x.0 x.1 ps x.2 g.1.2)
        (good_pairs rules (level + 1) y.0 y.1 qs y.2 h.1.2) same in
        let inner = same_set rules.key_order d.order ps qs g.1.3 h.1.3 set in
        ap (λ (ks : Pairs). spec.map ks w) inner
        ∙ ap (spec.map qs) (count_once (pair_count ps) (pair_count qs) w v g.1.1 h.1.1 (ap pair_count inner))
    item_once (tagged t w i) (tagged u v j) level g h same =
        let inner = item_once i j (level + 1) ((g.0.1.1.1, g.0.1.1.3), g.1.3) ((h.0.1.1.1, h.0.1.1.3), h.1.3) same.1 in
        let width : w ≡ v = g.1.1 d.heads ∙ ap shortest same.0 ∙ sym (h.1.1 d.heads) in
        ap (λ (k : ℕ). tagged k w i) same.0 ∙ ap (λ (k : IntegerWidth). tagged u k i) width ∙ ap (tagged u v) inner
    item_once (atom a) (array js v) level g h same = absurd same
    item_once (atom a) (spec.map qs v) level g h same = absurd same
    item_once (atom a) (tagged u v j) level g h same = absurd same
    item_once (array is w) (atom b) level g h same = absurd same
    item_once (array is w) (spec.map qs v) level g h same = absurd same
    item_once (array is w) (tagged u v j) level g h same = absurd same
    item_once (spec.map ps w) (atom b) level g h same = absurd same
    item_once (spec.map ps w) (array js v) level g h same = absurd same
    item_once (spec.map ps w) (tagged u v j) level g h same = absurd same
    item_once (tagged t w i) (atom b) level g h same = absurd same
    item_once (tagged t w i) (array js v) level g h same = absurd same
    item_once (tagged t w i) (spec.map qs v) level g h same = absurd same

    items_once : (is js : Items) (level : ℕ) → GoodItems rules level is → GoodItems rules level js
        → SameItems rules.shortest_floats is js → is ≡ js
    items_once no_items no_items level g h same = refl
    items_once (item i is) (item j js) level g h same =
        ap (λ (k : Item). item k is) (item_once i j level g.0 h.0 same.0)
        ∙ ap (item j) (items_once is js level g.1 h.1 same.1)
    items_once no_items (item j js) level g h same = absurd same
    items_once (item i is) no_items level g h same = absurd same

    pairs_once : (ps qs : Pairs) (level : ℕ) → GoodPairs rules level ps → GoodPairs rules level qs
        → SamePairs rules.shortest_floats ps qs → SameSet ps qs
    pairs_once no_pairs qs level g h same = same
    pairs_once (pair k v ps) qs level g h same =
        let t = taken rules level same.0 same.1 same.2 same.3 (subst (GoodPairs rules level) same.4 h) in
        let key = item_once k same.2 level g.0 t.key same.5 in
        let value = item_once v same.3 level g.1 t.value same.6 in (
          same.0,
          same.1,
          same.4 ∙ ap (λ (i : Item). joined_pairs same.0 (pair i same.3 same.1)) (sym key)
              ∙ ap (λ (i : Item). joined_pairs same.0 (pair k i same.1)) (sym value),
          pairs_once ps (joined_pairs same.0 same.1) level g.2 t.others same.7,
        )

-- ---- bytes

spelled_once : (is : Items) (b c : List ℕ) → SpellsItems strict 1 b is [] → SpellsItems strict 1 c is [] → b ≡ c
spelled_once no_items b c g h = g ∙ sym h
spelled_once (item i is) b c g h =
    let front : g.0 ≡ h.0 = strict_only 1 g.0 i g.3 ∙ sym (strict_only 1 h.0 i h.3) in
    let rest = spelled_once is g.1 h.1 g.4 h.4 in
    g.2 ∙ ap (λ (x : List ℕ). x ++ g.1) front ∙ ap (λ (x : List ℕ). h.0 ++ x) rest ∙ sym h.2

pub one_encoding : (rules : Rules) (b c : List ℕ) (is js : Items) → IsDeterministic rules → AreKept rules b is
    → AreKept rules c js → SameItems rules.shortest_floats is js → b ≡ c
one_encoding rules b c is js d g h same =
    let one = items_once rules d is js 1 (good_items rules 1 b [] is g.spells g.keeps)
    (good_items rules 1 c [] js h.spells h.keeps) same in
    spelled_once js b c (subst (λ (ks : Items). SpellsItems strict 1 b ks []) one g.spells) h.spells
