-- The parts of a container: if `kept_parts` reads members or pairs without a violation, the bytes begin with as many
-- members or pairs as the count asks for, or with those up to the break, and they keep the rules, also those for keys.
-- This holds for each function that reads items, if each item that it reads keeps the rules (`FindsAll`).
use Rattle.std.proofs.Common.{◌≡◌, ℕ, zero, suc, ◌-◌, List, [], ◌∷◌, ◌++◌, length, take, Option, Some}
use Rattle.std.proofs.Common.{None, Ok, inl, inr, refl, sym, ap, subst, ◌∙◌, append_assoc, arith}
use Rattle.std.proofs.lemmas.List.{length-append}
use Rattle.std.proofs.Math.Seq.{take-append_seam}
use Rattle.std.specs.declared.cmp.Ordering.{Ordering}
use Rattle.std.specs.declared.cmp.Ordering.TheVariants.{Less, Equal, Greater}
use Rattle.cbor_grammar.specs.declared.argument.Argument.{Argument}
use Rattle.cbor_grammar.specs.declared.argument.Argument.TheVariants.{Number, Indefinite}
use Rattle.cbor_grammar.specs.Item.{Item, Items, no_items, item, Pairs, no_pairs, pair, item_count, pair_count}
use Rattle.cbor_grammar.specs.Head.{break_byte}
use Rattle.cbor_grammar.specs.Bytes.{strict, SpellsItems, SpellsPairs}
use Rattle.cbor_grammar.proofs.bytes.Heads.{IsBytes, IsBytes-rest}
use Rattle.cbor_grammar.proofs.bytes.Found.{break_ways}
use Rattle.cbor_grammar.proofs.bytes.Strict.{strict_only}
use Rattle.cbor_rules.specs.declared.rules.Rules.{Rules}
use Rattle.cbor_rules.specs.FirstViolation.{Kept, kept_then, KeyAt, Open, members, pairs, value, front, key_violation}
use Rattle.cbor_rules.specs.FirstViolation.{unless, kept_parts, compared, key_at, Places, with_key}
use Rattle.cbor_rules.specs.FirstViolation.{order_violation, twice_violation}
use Rattle.cbor_rules.specs.KeyOrder.{key_cmp}
use Rattle.cbor_rules.specs.Keeps.{KeysAfter, KeysInOrder, KeepsItems, KeepsPairs}
use Rattle.cbor_rules.proofs.Heads.{then_kept, unless_kept, kept_is, both_none}
use Rattle.cbor_rules.proofs.KeysTwice.{KeysFresh, no_fresh, fresh_more}
use Rattle.cbor_rules.proofs.Found.{Found}

-- this many are to come, or any number
abbrev pub CountIs : Argument → ℕ → Type 0
CountIs (Number n w) k = n ≡ k
CountIs Indefinite k = Unit {0}

-- what comes after the last one: nothing, or the break
abbrev pub close : Argument → List ℕ
close (Number n w) = []
close Indefinite = break_byte ∷ []

pub record FoundMembers (rules : Rules) (level : ℕ) (a : Argument) (b rest : List ℕ) : Type 0 where
  pub items : Items
  pub front : List ℕ
  pub parts : b ≡ front ++ rest
  pub count : CountIs a (item_count items)
  pub spells : SpellsItems strict level front items (close a)
  pub keeps : KeepsItems rules level items
  pub rest_bytes : IsBytes rest

-- keys after the last one, if there is one
abbrev pub KeysOk : Rules → Option KeyAt → Pairs → Type 0
KeysOk rules None ps = KeysInOrder rules.key_order ps
KeysOk rules (Some last) ps = KeysAfter rules.key_order last.bytes ps

pub record FoundPairs (rules : Rules) (level : ℕ) (last : Option KeyAt) (seen : Places) (a : Argument)
    (b rest : List ℕ) : Type 0 where
  pub pairs : Pairs
  pub front : List ℕ
  pub parts : b ≡ front ++ rest
  pub count : CountIs a (pair_count pairs)
  pub spells : SpellsPairs strict level front pairs (close a)
  pub keeps : KeepsPairs rules level pairs
  pub keys : KeysOk rules last pairs
  pub fresh : KeysFresh rules seen pairs
  pub rest_bytes : IsBytes rest

-- the value of a key, and then pairs
record FoundValue (rules : Rules) (level : ℕ) (key : KeyAt) (seen : Places) (a : Argument)
    (b rest : List ℕ) : Type 0 where
  pub after : List ℕ
  pub found : Found rules level b after
  pub more : FoundPairs rules level (Some key) seen a after rest

-- ---- lists

pub front_is : (x r b : List ℕ) → b ≡ x ++ r → front b r ≡ x
front_is x r b e =
    let len : length (x ++ r) - length r ≡ length x = omega (arith, length-append x r) in
    ap (λ (y : List ℕ). front y r) e ∙ ap (λ k. take k (x ++ r)) len ∙ take-append_seam x r

two_parts : (b x r y rest : List ℕ) → b ≡ x ++ r → r ≡ y ++ rest → b ≡ (x ++ y) ++ rest
two_parts b x r y rest e f = e ∙ ap (λ (z : List ℕ). x ++ z) f ∙ sym (append_assoc x y rest)

compared_less : (o : Ordering) (place : ℕ) → compared o place ≡ None → o ≡ Less
compared_less Less place e = refl
compared_less Equal place e = absurd cc
compared_less Greater place e = absurd cc

no_keys : (rules : Rules) (last : Option KeyAt) → KeysOk rules last no_pairs
no_keys rules None = tt
no_keys rules (Some last) = tt

-- ---- members

abbrev pub FindsAll : Rules → ℕ → (List ℕ → Kept (List ℕ)) → Type 0
FindsAll rules level read = (b rest : List ℕ) → IsBytes b → read b ≡ Ok rest → Found rules level b rest

module _ (rules : Rules) (total level : ℕ) (read : List ℕ → Kept (List ℕ)) (finds : FindsAll rules level read) where
  member_more : (a a' : Argument) (b r rest : List ℕ) → close a' ≡ close a
      → ((k : ℕ) → CountIs a' k → CountIs a (suc k)) → Found rules level b r → FoundMembers rules level a' r rest
      → FoundMembers rules level a b rest
  member_more a a' b r rest same_end more f m = record {
    items = item f.item m.items;
    front = f.front ++ m.front;
    parts = two_parts b f.front r m.front rest f.parts m.parts;
    count = more (item_count m.items) m.count;
    spells = (
      f.front,
      m.front,
      refl,
      f.spells,
      subst (λ (e : List ℕ). SpellsItems strict level m.front m.items e) same_end m.spells,
    );
    keeps = (f.keeps, m.keeps);
    rest_bytes = m.rest_bytes;
  }

  pub members_found : (n : ℕ) (a : Argument) (b rest : List ℕ) → IsBytes b
      → kept_parts n rules total read (members a) b ≡ Ok rest → FoundMembers rules level a b rest
  unfolding kept_parts
  members_found zero a b rest fits e = absurd cc
  members_found (suc n) (Number zero w) b rest fits e =
      let same = kept_is b rest e in
      record {
        items = no_items;
        front = [];
        parts = same;
        count = refl;
        spells = refl;
        keeps = tt;
        rest_bytes = subst IsBytes same fits;
      }
  members_found (suc n) (Number (suc k) w) b rest fits e =
      let t = then_kept (read b) (λ r. kept_parts n rules total read (members (Number k w)) r) rest e in
      let f = finds b t.0 fits t.1 in
      member_more (Number (suc k) w) (Number k w) b t.0 rest refl (λ j is. ap suc is) f
      (members_found n (Number k w) t.0 rest f.rest_bytes t.2)
  members_found (suc n) Indefinite b rest fits e =
      elim (break_ways b) [
        | inl at ↦
            let same = kept_is at.0 rest (rw at.2 at e) in
            record {
              items = no_items;
              front = break_byte ∷ [];
              parts = at.1 ∙ ap (λ (x : List ℕ). break_byte ∷ x) same;
              count = tt;
              spells = refl;
              keeps = tt;
              rest_bytes = subst IsBytes same (IsBytes-rest break_byte at.0 (subst IsBytes at.1 fits));
            }
        | inr none ↦
            let e' = rw none at e in
            let t = then_kept (read b) (λ r. kept_parts n rules total read (members Indefinite) r) rest e' in
            let f = finds b t.0 fits t.1 in
            member_more Indefinite Indefinite b t.0 rest refl (λ j is. tt) f
            (members_found n Indefinite t.0 rest f.rest_bytes t.2)
      ]

  -- ---- pairs

  keys_more : (last : Option KeyAt) (b r : List ℕ) (f : Found rules level b r) (v : Item) (ps : Pairs)
      → order_violation rules last (front b r) ≡ None → KeysAfter rules.key_order (front b r) ps
      → KeysOk rules last (pair f.item v ps)
  keys_more None b r f v ps none after =
      let is = front_is f.front r b f.parts ∙ strict_only level f.front f.item f.spells in
      subst (λ (k : List ℕ). KeysAfter rules.key_order k ps) is after
  keys_more (Some last) b r f v ps none after =
      let is = front_is f.front r b f.parts ∙ strict_only level f.front f.item f.spells in
      let less = compared_less (key_cmp rules.key_order last.bytes (front b r)) last.place none in (
        subst (λ (k : List ℕ). key_cmp rules.key_order last.bytes k ≡ Less) is less,
        subst (λ (k : List ℕ). KeysAfter rules.key_order k ps) is after,
      )

  pair_more : (last : Option KeyAt) (seen : Places) (a a' : Argument) (b r rest : List ℕ) → close a' ≡ close a
      → ((k : ℕ) → CountIs a' k → CountIs a (suc k)) → Found rules level b r
      → key_violation rules last seen (front b r) ≡ None
      → FoundValue rules level (key_at total b r) (with_key rules (key_at total b r) seen) a' r rest
      → FoundPairs rules level last seen a b rest
  pair_more last seen a a' b r rest same_end more f none v = record {
    pairs = pair f.item v.found.item v.more.pairs;
    front = f.front ++ (v.found.front ++ v.more.front);
    parts = two_parts b f.front r (v.found.front ++ v.more.front) rest f.parts
        (two_parts r v.found.front v.after v.more.front rest v.found.parts v.more.parts);
    count = more (pair_count v.more.pairs) v.more.count;
    spells = (
      f.front,
      v.found.front,
      v.more.front,
      refl,
      f.spells,
      v.found.spells,
      subst (λ (e : List ℕ). SpellsPairs strict level v.more.front v.more.pairs e) same_end v.more.spells,
    );
    keeps = (f.keeps, v.found.keeps, v.more.keeps);
    keys = keys_more last b r f v.found.item v.more.pairs
        (both_none (order_violation rules last (front b r)) (twice_violation rules seen
        (front b r)) none).0 v.more.keys;
    fresh = fresh_more rules seen (key_at total b r) f.item v.found.item v.more.pairs
        (front_is f.front r b f.parts ∙ strict_only level f.front f.item f.spells)
        (both_none (order_violation rules last (front b r)) (twice_violation rules seen
        (front b r)) none).1 v.more.fresh;
    rest_bytes = v.more.rest_bytes;
  }

  -- a key that was read, and what was read after it
  key_found : (last : Option KeyAt) (seen : Places) (a a' : Argument) (b rest : List ℕ)
      (after : Open → List ℕ → Kept (List ℕ)) → IsBytes b → close a' ≡ close a
      → ((k : ℕ) → CountIs a' k → CountIs a (suc k))
      → ((key : KeyAt) (seen' : Places) (r : List ℕ) → IsBytes r → after (value key seen' a') r ≡ Ok rest
      → FoundValue rules level key seen' a' r rest)
      → kept_then (read b) (λ r. kept_then (unless total b (key_violation rules last seen (front b r))
      (value (key_at total b r) (with_key rules (key_at total b r) seen) a')) (λ p. after p r)) ≡ Ok rest
      → FoundPairs rules level last seen a b rest
  key_found last seen a a' b rest after fits same_end more values e =
      let t = then_kept (read b) (λ r. kept_then (unless total b (key_violation rules last seen (front b r))
      (value (key_at total b r) (with_key rules (key_at total b r) seen) a')) (λ p. after p r)) rest e in
      let r = t.0 in
      let key = key_at total b r in
      let seen' = with_key rules key seen in
      let f = finds b r fits t.1 in
      let violation = key_violation rules last seen (front b r) in
      let u = then_kept (unless total b violation (value key seen' a')) (λ p. after p r) rest t.2 in
      let none = unless_kept total b violation (value key seen' a') u.0 u.1 in
      let its_value = subst (λ (p : Open). after p r ≡ Ok rest) (sym none.1) u.2 in
      pair_more last seen a a' b r rest same_end more f none.0 (values key seen' r f.rest_bytes its_value)

  mutual
    unfolding kept_parts

    pub pairs_found : (n : ℕ) (last : Option KeyAt) (seen : Places) (a : Argument) (b rest : List ℕ) → IsBytes b
        → kept_parts n rules total read (pairs last seen a) b ≡ Ok rest → FoundPairs rules level last seen a b rest
    pairs_found zero last seen a b rest fits e = absurd cc
    pairs_found (suc n) last seen (Number zero w) b rest fits e =
        let same = kept_is b rest e in
        record {
          pairs = no_pairs;
          front = [];
          parts = same;
          count = refl;
          spells = refl;
          keeps = tt;
          keys = no_keys rules last;
          fresh = no_fresh rules seen;
          rest_bytes = subst IsBytes same fits;
        }
    pairs_found (suc n) last seen (Number (suc k) w) b rest fits e =
        key_found last seen (Number (suc k) w) (Number k w) b rest (kept_parts n rules total read) fits refl
        (λ j is. ap suc is) (λ key s r fits e. value_found n key s (Number k w) r rest fits e) e
    pairs_found (suc n) last seen Indefinite b rest fits e =
        elim (break_ways b) [
          | inl at ↦
              let same = kept_is at.0 rest (rw at.2 at e) in
              record {
                pairs = no_pairs;
                front = break_byte ∷ [];
                parts = at.1 ∙ ap (λ (x : List ℕ). break_byte ∷ x) same;
                count = tt;
                spells = refl;
                keeps = tt;
                keys = no_keys rules last;
                fresh = no_fresh rules seen;
                rest_bytes = subst IsBytes same (IsBytes-rest break_byte at.0 (subst IsBytes at.1 fits));
              }
          | inr none ↦ key_found last seen Indefinite Indefinite b rest (kept_parts n rules total read) fits refl
              (λ j is. tt) (λ key s r fits e. value_found n key s Indefinite r rest fits e) (rw none at e)
        ]

    value_found : (n : ℕ) (key : KeyAt) (seen : Places) (a : Argument) (b rest : List ℕ) → IsBytes b
        → kept_parts n rules total read (value key seen a) b ≡ Ok rest → FoundValue rules level key seen a b rest
    value_found zero key seen a b rest fits e = absurd cc
    value_found (suc n) key seen a b rest fits e =
        let t = then_kept (read b) (λ r. kept_parts n rules total read (pairs (Some key) seen a) r) rest e in
        let f = finds b t.0 fits t.1 in
        record { after = t.0; found = f; more = pairs_found n (Some key) seen a t.0 rest f.rest_bytes t.2 }
