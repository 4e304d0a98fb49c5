-- Any item, with all items in it: if `kept_item` reads it without a violation, the bytes begin with an item that keeps
-- the rules (`Found`). If `first_violation` is `None`, the bytes are items that keep the rules (`KeepsRules`).
use Rattle.std.proofs.Common.{◌≡◌, ℕ, zero, suc, ◌+◌, ◌-◌, ◌≤◌, Bool, true, false, cond, ltb, List, [], ◌∷◌, ◌++◌}
use Rattle.std.proofs.Common.{length, Option, Some, None, Ok, Err, refl, sym, ap, subst, ◌∙◌, append_assoc, arith}
use Rattle.std.proofs.lemmas.Bool.{ltb-false}
use Rattle.std.proofs.lemmas.List.{append-nil, length-append}
use Rattle.cbor_grammar.specs.declared.width.IntegerWidth.TheVariants.{Zero}
use Rattle.cbor_grammar.specs.declared.argument.Argument.{Argument}
use Rattle.cbor_grammar.specs.declared.argument.Argument.TheVariants.{Number, Indefinite}
use Rattle.cbor_grammar.specs.declared.head.ItemHead.{ItemHead}
use Rattle.cbor_grammar.specs.declared.head.ItemHead.TheVariants as item_head
use Rattle.cbor_grammar.specs.Item as spec
use Rattle.cbor_grammar.specs.Item.{Item, array, tagged, Items, no_items, item, Pairs, item_count, pair_count}
use Rattle.cbor_grammar.specs.Head.{opening, HeadThen, head}
use Rattle.cbor_grammar.specs.WellFormed.{deepest}
use Rattle.cbor_grammar.specs.Bytes.{strict, MembersThen, SpellsItems, SpellsPairs}
use Rattle.cbor_grammar.specs.Reading.{read_head, count_width}
use Rattle.cbor_grammar.proofs.bytes.Heads.{IsBytes, ArgumentThen, head_takes}
use Rattle.cbor_grammar.proofs.bytes.Strict.{strict_any}
use Rattle.cbor_grammar.proofs.bytes.Sizes.{one_byte}
use Rattle.cbor_rules.specs.declared.rules.Rules.{Rules}
use Rattle.cbor_rules.specs.declared.kind.ViolationKind.TheVariants as kind
use Rattle.cbor_rules.specs.declared.kind.Violation.{Violation}
use Rattle.cbor_rules.specs.FirstViolation.{Kept, opened, kept_head, head_violation, number_violation}
use Rattle.cbor_rules.specs.FirstViolation.{tag_violation, violation_or_else, no_places}
use Rattle.cbor_rules.specs.FirstViolation.{argument_violation, at, unless, kept_body, kept_item}
use Rattle.cbor_rules.specs.FirstViolation.{violation_or, violation_from, first_violation}
use Rattle.cbor_rules.specs.Keeps.{KeepsNumber, KeepsCount, KeepsItems, KeepsRules}
use Rattle.cbor_rules.proofs.Heads.{then_kept, unless_kept, at_kept, some_first, both_none, number_found}
use Rattle.cbor_rules.proofs.BigNumbers.{big_found}
use Rattle.cbor_rules.proofs.Found.{Found, atom_found, definite_found}
use Rattle.cbor_rules.proofs.FoundParts.{CountIs, close, FoundMembers, members_found, pairs_found}

-- ---- a container by its head and its parts

-- the bytes of a container
record Whole (major k : ℕ) (a : Argument) (b rest : List ℕ) (Members : List ℕ → List ℕ → Type 0) : Type 0 where
  pub front : List ℕ
  pub parts : b ≡ front ++ rest
  pub spells : MembersThen major k (count_width a) front Members

whole : (major k : ℕ) (a : Argument) (b r inner rest : List ℕ) (Members : List ℕ → List ℕ → Type 0)
    → ArgumentThen major a b r → r ≡ inner ++ rest → CountIs a k → Members inner (close a)
    → Whole major k a b rest Members
whole major k (Number n w) b r inner rest Members is parts count inside =
    let h = head major n w in
    record {
      front = h ++ inner;
      parts = is.2 ∙ ap (λ (x : List ℕ). h ++ x) (is.3 ∙ parts) ∙ sym (append_assoc h inner rest);
      spells = subst (λ j. HeadThen major j w (h ++ inner) (λ x. Members x [])) count (is.0, inner, refl, inside);
    }
whole major k Indefinite b r inner rest Members is parts count inside = record {
  front = opening major ∷ inner;
  parts = is ∙ ap (λ (x : List ℕ). opening major ∷ x) parts;
  spells = (inner, refl, inside);
}

-- ---- the head of a container

some_last : {A : Type 0} (t : Bool) (x : A) (y : Option A) → cond t y (Some x) ≡ None → (t ≡ true) × (y ≡ None)
some_last true x y e = (refl, e)
some_last false x y e = absurd cc

count_found : (rules : Rules) (major k : ℕ) (a : Argument) (b r : List ℕ) → ArgumentThen major a b r → CountIs a k
    → argument_violation rules a ≡ None → KeepsCount rules k (count_width a)
count_found rules major k (Number n w) b r is count e =
    subst (λ j. KeepsNumber rules j w) count (number_found rules n w is.0 e)
count_found rules major k Indefinite b r is count e = definite_found rules.definite_lengths e

-- ---- items

-- the one item of a tag
one_item : (rules : Rules) (level : ℕ) (r rest : List ℕ) → FoundMembers rules level (Number 1 Zero) r rest
    → Found rules level r rest
one_item rules level r rest m = go m.items m.count m.spells m.keeps
  where
    go : (is : Items) → 1 ≡ item_count is → SpellsItems strict level m.front is [] → KeepsItems rules level is
        → Found rules level r rest
    go no_items count spells keeps = absurd (omega arith)
    go (item i no_items) count spells keeps = record {
      item = i;
      front = spells.0;
      parts = m.parts ∙ ap (λ (x : List ℕ). x ++ rest) (spells.2 ∙ ap (λ (x : List ℕ). spells.0 ++ x) spells.4
          ∙ append-nil spells.0);
      spells = spells.3;
      keeps = keeps.0;
      rest_bytes = m.rest_bytes;
    }
    go (item i (item j is)) count spells keeps = absurd (omega arith)

module _ (rules : Rules) (total level left : ℕ) (b r rest : List ℕ) (sum : level + suc left ≡ 129)
    (fits : IsBytes b) where
  body_found : (read : List ℕ → Kept (List ℕ))
      → ((c d : List ℕ) → IsBytes c → read c ≡ Ok d → Found rules (level + 1) c d)
      → (h : ItemHead) → read_head b ≡ Ok (h, r) → head_violation rules level b h r ≡ None
      → kept_body rules total b read (opened h) h r ≡ Ok rest → Found rules level b rest
  body_found read finds (item_head.Array a) reads none e =
      let is = head_takes b r (item_head.Array a) fits reads in
      let m = members_found rules total (level + 1) read finds (suc (length r)) a r rest is.1 e in
      let k = item_count m.items in
      let its_head = some_first (ltb rules.deepest level) kind.TooDeep (argument_violation rules a) none in
      let w = whole 4 k a b r m.front rest (λ x end. SpellsItems strict (level + 1) x m.items end) is.0 m.parts m.count
      m.spells in
      record {
        item = array m.items (count_width a);
        front = w.front;
        parts = w.parts;
        spells = (omega arith, w.spells);
        keeps = (
          ltb-false rules.deepest level its_head.0,
          count_found rules 4 k a b r is.0 m.count its_head.1,
          m.keeps,
        );
        rest_bytes = m.rest_bytes;
      }
  body_found read finds (item_head.Map a) reads none e =
      let is = head_takes b r (item_head.Map a) fits reads in
      let m = pairs_found rules total (level + 1) read finds (suc (length r)) None no_places a r rest is.1 e in
      let k = pair_count m.pairs in
      let its_head = some_first (ltb rules.deepest level) kind.TooDeep (argument_violation rules a) none in
      let w = whole 5 k a b r m.front rest (λ x end. SpellsPairs strict (level + 1) x m.pairs end) is.0 m.parts m.count
      m.spells in
      record {
        item = spec.map m.pairs (count_width a);
        front = w.front;
        parts = w.parts;
        spells = (omega arith, w.spells);
        keeps = (
          ltb-false rules.deepest level its_head.0,
          count_found rules 5 k a b r is.0 m.count its_head.1,
          m.keeps,
          m.keys,
          λ on. (m.fresh on).1,
        );
        rest_bytes = m.rest_bytes;
      }
  body_found read finds (item_head.Tag n w) reads none e =
      let is = head_takes b r (item_head.Tag n w) fits reads in
      let f = one_item rules (level + 1) r rest
      (members_found rules total (level + 1) read finds (suc (length r)) (Number 1 Zero) r rest is.1 e) in
      let tag_none = some_last rules.tags kind.Tag
      (violation_or_else (number_violation rules n w) (tag_violation rules n r)) none in
      let its_head = both_none (number_violation rules n w) (tag_violation rules n r) tag_none.1 in
      let big = big_found rules n f.item (level + 1) f.front rest f.spells
      (subst (λ (y : List ℕ). tag_violation rules n y ≡ None) f.parts its_head.1) in
      let tag = head 6 n w in
      record {
        item = tagged n w f.item;
        front = tag ++ f.front;
        parts = is.0.2 ∙ ap (λ (x : List ℕ). tag ++ x) (is.0.3 ∙ f.parts) ∙ sym (append_assoc tag f.front rest);
        spells = (omega arith, (is.0.0, f.front, refl, f.spells));
        keeps = (tag_none.0, number_found rules n w is.0.0 its_head.0, big, f.keeps);
        rest_bytes = f.rest_bytes;
      }
  body_found read finds (item_head.Integer n w) reads none e =
      atom_found rules total level left b r rest sum fits (item_head.Integer n w) reads none refl e
  body_found read finds (item_head.Negative n w) reads none e =
      atom_found rules total level left b r rest sum fits (item_head.Negative n w) reads none refl e
  body_found read finds (item_head.String kind a) reads none e =
      atom_found rules total level left b r rest sum fits (item_head.String kind a) reads none refl e
  body_found read finds (item_head.Float bits w) reads none e =
      atom_found rules total level left b r rest sum fits (item_head.Float bits w) reads none refl e
  body_found read finds (item_head.Simple n) reads none e =
      atom_found rules total level left b r rest sum fits (item_head.Simple n) reads none refl e

pub item_found : (left : ℕ) (rules : Rules) (total level : ℕ) (b rest : List ℕ) → level + left ≡ 129 → IsBytes b
    → kept_item left rules total b ≡ Ok rest → Found rules level b rest
unfolding kept_item
item_found zero rules total level b rest sum fits e = absurd cc
item_found (suc left) rules total level b rest sum fits e =
    let t = then_kept (kept_head rules total (deepest - left) b)
    (λ h. kept_body rules total b (kept_item left rules total) (opened h.0) h.0 h.1) rest e in
    let a = then_kept (at total b (read_head b))
    (λ h. unless total b (head_violation rules (deepest - left) b h.0 h.1) h) t.0
    t.1 in
    let u = unless_kept total b (head_violation rules (deepest - left) b a.0.0 a.0.1) a.0 t.0 a.2 in
    let here : deepest - left ≡ level = omega arith in
    let none = subst (λ k. head_violation rules k b a.0.0 a.0.1 ≡ None) here u.0 in
    let body = subst (λ (h : ItemHead × List ℕ).
    kept_body rules total b (kept_item left rules total) (opened h.0) h.0 h.1 ≡ Ok rest) (sym u.1) t.2 in
    body_found rules total level left b a.0.1 rest sum fits (kept_item left rules total)
    (λ c d fits e. item_found left rules total (level + 1) c d (omega arith) fits e) a.0.0
    (at_kept total b (read_head b) a.0 a.1) none body

-- ---- items one after the other

items_found : (n : ℕ) (rules : Rules) (total : ℕ) (b : List ℕ) → length b ≤ n → IsBytes b
    → violation_from n rules total b ≡ None → KeepsRules rules b
unfolding violation_from
items_found zero rules total [] le fits e = (no_items, refl, tt)
items_found (suc n) rules total [] le fits e = (no_items, refl, tt)
items_found zero rules total (first ∷ b) le fits e = absurd (omega arith)
items_found (suc n) rules total (first ∷ b) le fits e =
    let r = none_or (kept_item deepest rules total (first ∷ b)) (violation_from n rules total) e in
    let f = item_found deepest rules total 1 (first ∷ b) r.0 (omega arith) fits r.1 in
    let some = one_byte 1 f.front f.item (strict_any 1 f.front f.item f.spells) in
    let shorter : length r.0 ≤ n = omega (arith, ap length f.parts, length-append f.front r.0) in
    let more = items_found n rules total r.0 shorter f.rest_bytes r.2 in
    (item f.item more.0, (f.front, r.0, f.parts, f.spells, more.1), (f.keeps, more.2))
  where
    none_or : (r : Kept (List ℕ)) (f : List ℕ → Option Violation) → violation_or r f ≡ None
        → (x : List ℕ) × (r ≡ Ok x) × (f x ≡ None)
    none_or (Ok x) f e = (x, refl, e)
    none_or (Err d) f e = absurd cc

pub rules_found : (rules : Rules) (b : List ℕ) → IsBytes b → first_violation rules b ≡ None → KeepsRules rules b
rules_found rules b fits e = items_found (length b) rules (length b) b (omega arith) fits e
