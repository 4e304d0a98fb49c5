-- Any item, with all items in it: if it keeps the rules (`Keeps`), `kept_item` reads its bytes without a violation,
-- whatever follows them. If bytes are items that keep the rules (`KeepsRules`), `first_violation` of them is `None`.
use Rattle.std.proofs.Common.{◌≡◌, ℕ, zero, suc, ◌+◌, ◌<◌, ◌≤◌, Bool, true, false, cond, ltb, List, []}
use Rattle.std.proofs.Common.{◌∷◌, ◌++◌, length, Option, Some, None, Ok, refl, sym, ap, subst, ◌∙◌}
use Rattle.std.proofs.Common.{append_assoc, arith}
use Rattle.std.proofs.lemmas.Bool.{le-ltb}
use Rattle.std.proofs.lemmas.List.{length-append}
use Rattle.std.specs.declared.cmp.Ordering.TheVariants.{Less}
use Rattle.cbor_grammar.specs.declared.width.IntegerWidth.{IntegerWidth}
use Rattle.cbor_grammar.specs.declared.width.IntegerWidth.TheVariants.{Zero}
use Rattle.cbor_grammar.specs.declared.argument.Argument.{Argument}
use Rattle.cbor_grammar.specs.declared.argument.Argument.TheVariants.{Number, Indefinite}
use Rattle.cbor_grammar.specs.declared.head.ItemHead.TheVariants as item_head
use Rattle.cbor_grammar.specs.Item as spec
use Rattle.cbor_grammar.specs.Item.{Item, atom, array, tagged, Items, no_items, item, Pairs, no_pairs, pair, item_count}
use Rattle.cbor_grammar.specs.Item.{pair_count}
use Rattle.cbor_grammar.specs.WellFormed.{deepest}
use Rattle.cbor_grammar.specs.Bytes.{strict, Spells, SpellsItems, SpellsPairs}
use Rattle.cbor_grammar.specs.Reading.{after_break, after_members, one_less}
use Rattle.cbor_grammar.proofs.bytes.Heads.{head_append, head_again}
use Rattle.cbor_grammar.proofs.bytes.FoundAgain.{spelled_begins, spelled_level, no_break_at}
use Rattle.cbor_grammar.proofs.bytes.Sizes.{one_byte}
use Rattle.cbor_grammar.proofs.bytes.Strict.{strict_any, strict_only}
use Rattle.cbor_rules.specs.declared.rules.Rules.{Rules}
use Rattle.cbor_rules.specs.declared.kind.ViolationKind.TheVariants as kind
use Rattle.cbor_rules.specs.FirstViolation.{Kept, kept_then, KeyAt, Open, members, pairs, value, after_end, front}
use Rattle.cbor_rules.specs.FirstViolation.{number_violation, tag_violation, violation_or_else, argument_violation}
use Rattle.cbor_rules.specs.FirstViolation.{container_violation}
use Rattle.cbor_rules.specs.FirstViolation.{compared, order_violation, twice_violation, key_violation, after_part}
use Rattle.cbor_rules.specs.FirstViolation.{unless}
use Rattle.cbor_rules.specs.FirstViolation.{Places, no_places, with_key, key_at}
use Rattle.cbor_rules.specs.FirstViolation.{ended_or, kept_parts, kept_item, violation_or, violation_from}
use Rattle.cbor_rules.specs.FirstViolation.{first_violation}
use Rattle.cbor_rules.specs.KeyOrder.{key_cmp}
use Rattle.cbor_rules.specs.Keeps.{KeepsCount, KeysAfter, Keeps, KeepsItems, KeepsPairs}
use Rattle.cbor_rules.specs.Keeps.{KeepsRules}
use Rattle.cbor_rules.proofs.Heads.{test_kept, number_again}
use Rattle.cbor_rules.proofs.KeysTwice.{KeysFresh, fresh_first, fresh_rest, all_fresh}
use Rattle.cbor_rules.proofs.FoundParts.{CountIs, close, KeysOk, front_is}
use Rattle.cbor_rules.proofs.Again.{by_head, atom_again}
use Rattle.cbor_rules.proofs.Opens.{counted, opens, array_head, map_head, tag_head}
use Rattle.cbor_rules.proofs.BigNumbers.{big_again}

-- ---- the head of a container

some_kept : {A : Type 0} (t : Bool) (x : A) (y : Option A) → t ≡ false → y ≡ None → cond t (Some x) y ≡ None
some_kept true x y off none = absurd cc
some_kept false x y off none = none

last_kept : {A : Type 0} (t : Bool) (x : A) (y : Option A) → t ≡ true → y ≡ None → cond t y (Some x) ≡ None
last_kept true x y on none = none
last_kept false x y on none = absurd cc

count_kept : (rules : Rules) (n : ℕ) (w : Option IntegerWidth) → KeepsCount rules n w
    → argument_violation rules (counted w n) ≡ None
count_kept rules n (Some w) keeps = number_again rules n w keeps
count_kept rules n None keeps = test_kept rules.definite_lengths kind.Indefinite keeps

container_kept : (rules : Rules) (level n : ℕ) (w : Option IntegerWidth) → level ≤ rules.deepest → KeepsCount rules n w
    → container_violation rules level (counted w n) ≡ None
container_kept rules level n w le keeps =
    some_kept (ltb rules.deepest level) kind.TooDeep (argument_violation rules (counted w n))
    (le-ltb rules.deepest level le) (count_kept rules n w keeps)

is_counted : (w : Option IntegerWidth) (n : ℕ) → CountIs (counted w n) n
is_counted (Some w) n = refl
is_counted None n = tt

-- ---- turns

parts_over : (n : ℕ) (rules : Rules) (total : ℕ) (read : List ℕ → Kept (List ℕ)) (o : Open) (b after : List ℕ)
    → 0 < n → after_end o b ≡ Some after → kept_parts n rules total read o b ≡ Ok after
unfolding kept_parts
parts_over zero rules total read o b after lt e = absurd (omega arith)
parts_over (suc n) rules total read o b after lt e =
    ap (λ x. ended_or x (kept_then (read b)
    (λ rest. kept_then (after_part rules total o b rest) (λ p. kept_parts n rules total read p rest)))) e

parts_more : (n m : ℕ) (rules : Rules) (total : ℕ) (read : List ℕ → Kept (List ℕ)) (o p : Open) (b rest : List ℕ)
    → n ≡ suc m → after_end o b ≡ None → read b ≡ Ok rest → after_part rules total o b rest ≡ Ok p
    → kept_parts n rules total read o b ≡ kept_parts m rules total read p rest
unfolding kept_parts
parts_more n m rules total read o p b rest count e part next =
    ap (λ k. kept_parts k rules total read o b) count
    ∙ ap (λ x. ended_or x (kept_then (read b)
    (λ rest. kept_then (after_part rules total o b rest) (λ p. kept_parts m rules total read p rest)))) e
    ∙ ap (λ x. kept_then x
    (λ rest. kept_then (after_part rules total o b rest) (λ p. kept_parts m rules total read p rest))) part
    ∙ ap (λ x. kept_then x (λ p. kept_parts m rules total read p rest)) next

-- where no more members come
none_left : (a : Argument) (k : ℕ) (b rest : List ℕ) → CountIs a k → k ≡ 0 → b ≡ close a
    → after_members a (b ++ rest) ≡ Some rest
none_left (Number n w) k b rest count none is =
    let zero_left : n ≡ 0 = omega arith in rw (zero_left, is) refl
none_left Indefinite k b rest count none is = rw is refl

-- where one more comes
record OneLeft (a : Argument) (k : ℕ) (b : List ℕ) : Type 0 where
  pub some : after_members a b ≡ None
  pub count : CountIs (one_less a) k
  pub same_end : close a ≡ close (one_less a)

one_left : (a : Argument) (k : ℕ) (b : List ℕ) → CountIs a (suc k) → after_break b ≡ None → OneLeft a k b
one_left (Number zero w) k b count none = absurd (omega arith)
one_left (Number (suc n) w) k b count none = record { some = refl; count = omega arith; same_end = refl }
one_left Indefinite k b count none = record { some = none; count = tt; same_end = refl }

-- the next item of some bytes
next_is : (b x r rest : List ℕ) → b ≡ x ++ r → b ++ rest ≡ x ++ (r ++ rest)
next_is b x r rest e = ap (λ (y : List ℕ). y ++ rest) e ∙ append_assoc x r rest

order_kept : (rules : Rules) (last : Option KeyAt) (x s : List ℕ) (level : ℕ) (k v : Item) (ps : Pairs)
    → Spells strict level x k → KeysOk rules last (pair k v ps)
    → (order_violation rules last (front (x ++ s) s) ≡ None) × KeysAfter rules.key_order (front (x ++ s) s) ps
order_kept rules None x s level k v ps spells keys =
    let is = sym (front_is x s (x ++ s) refl ∙ strict_only level x k spells) in
    (refl, subst (λ (key : List ℕ). KeysAfter rules.key_order key ps) is keys)
order_kept rules (Some last) x s level k v ps spells keys =
    let is = sym (front_is x s (x ++ s) refl ∙ strict_only level x k spells) in
    let less = subst (λ (key : List ℕ). key_cmp rules.key_order last.bytes key ≡ Less) is keys.0 in
    (ap (λ o. compared o last.place) less, subst (λ (key : List ℕ). KeysAfter rules.key_order key ps) is keys.1)

-- what a key that keeps the rules leaves to the keys after it
record KeyKept (rules : Rules) (total : ℕ) (last : Option KeyAt) (seen : Places) (b r : List ℕ) (ps : Pairs)
    : Type 0 where
  pub none : key_violation rules last seen (front b r) ≡ None
  pub after : KeysAfter rules.key_order (front b r) ps
  pub fresh : KeysFresh rules (with_key rules (key_at total b r) seen) ps

key_kept : (rules : Rules) (total : ℕ) (last : Option KeyAt) (seen : Places) (x s : List ℕ) (level : ℕ) (k v : Item)
    (ps : Pairs) → Spells strict level x k → KeysOk rules last (pair k v ps) → KeysFresh rules seen (pair k v ps)
    → KeyKept rules total last seen (x ++ s) s ps
key_kept rules total last seen x s level k v ps spells keys fresh =
    let o = order_kept rules last x s level k v ps spells keys in
    let key = key_at total (x ++ s) s in
    let is = front_is x s (x ++ s) refl ∙ strict_only level x k spells in
    record {
      none = ap (λ q. violation_or_else q (twice_violation rules seen key.bytes)) o.0
          ∙ fresh_first rules seen key k v ps is fresh;
      after = o.1;
      fresh = fresh_rest rules seen key k v ps is fresh;
    }

-- one less than a number above another
less_one : (n k : ℕ) → k < n → (m : ℕ) × (n ≡ suc m) × (k ≤ m)
less_one zero k lt = absurd (omega arith)
less_one (suc m) k lt = (m, refl, omega arith)

-- ---- items, members, pairs

mutual
  pub item_again : (i : Item) (rules : Rules) (total level left : ℕ) (x c : List ℕ) → level + left ≡ 129
      → Spells strict level x i → Keeps rules level i → kept_item left rules total (x ++ c) ≡ Ok c
  item_again i rules total level zero x c sum h keeps =
      absurd (omega (arith, spelled_level level x i (strict_any level x i h)))
  item_again (atom a) rules total level (suc left) x c sum h keeps =
      atom_again rules total level left sum a x c h.1 keeps
  item_again (array is w) rules total level (suc left) x c sum h keeps =
      let n = item_count is in
      let a = counted w n in
      let o = opens 4 n w x c (λ rest end. SpellsItems strict (level + 1) rest is end) h.1 in
      by_head rules total level left sum (x ++ c) (o.inner ++ c) (item_head.Array a)
      (head_again 4 a (item_head.Array a) (x ++ c) (o.inner ++ c) (omega arith) o.is (array_head a))
      (container_kept rules level n w keeps.0 keeps.1)
      ∙ members_again is rules total (level + 1) left (suc (length (o.inner ++ c))) a o.inner c (omega arith)
      (omega arith) o.spells keeps.2 (is_counted w n)
  item_again (spec.map ps w) rules total level (suc left) x c sum h keeps =
      let n = pair_count ps in
      let a = counted w n in
      let o = opens 5 n w x c (λ rest end. SpellsPairs strict (level + 1) rest ps end) h.1 in
      by_head rules total level left sum (x ++ c) (o.inner ++ c) (item_head.Map a)
      (head_again 5 a (item_head.Map a) (x ++ c) (o.inner ++ c) (omega arith) o.is (map_head a))
      (container_kept rules level n w keeps.0 keeps.1)
      ∙ pairs_again ps rules total (level + 1) left (suc (length (o.inner ++ c))) None no_places a o.inner c
      (omega arith) (omega arith) o.spells keeps.2 keeps.3 (λ on. all_fresh ps (keeps.4 on)) (is_counted w n)
  item_again (tagged t w i) rules total level (suc left) x c sum h keeps =
      let inner = h.1.1 in
      let r = inner ++ c in
      let is = head_append 6 t w x c (λ y. y ≡ inner) (λ y. y ≡ r) (h.1.0, inner, h.1.2, refl)
      (λ y e. ap (λ (z : List ℕ). z ++ c) e) in
      let some = one_byte (level + 1) inner i (strict_any (level + 1) inner i h.1.3) in
      let long : 0 < length r = omega (arith, length-append inner c) in
      by_head rules total level left sum (x ++ c) r (item_head.Tag t w)
      (head_again 6 (Number t w) (item_head.Tag t w) (x ++ c) r (omega arith) is (tag_head t w))
      (last_kept rules.tags kind.Tag (violation_or_else (number_violation rules t w) (tag_violation rules t r)) keeps.0
      (ap (λ k. violation_or_else k (tag_violation rules t r)) (number_again rules t w keeps.1)
      ∙ big_again rules t i (level + 1) inner c h.1.3 keeps.2))
      ∙ parts_more (suc (length r)) (length r) rules total (kept_item left rules total) (members (Number 1 Zero))
      (members (Number 0 Zero)) r c refl refl
      (item_again i rules total (level + 1) left inner c (omega arith) h.1.3 keeps.3) refl
      ∙ parts_over (length r) rules total (kept_item left rules total) (members (Number 0 Zero)) c c long refl

  members_again : (is : Items) (rules : Rules) (total level left n : ℕ) (a : Argument) (b rest : List ℕ)
      → level + left ≡ 129 → length (b ++ rest) < n → SpellsItems strict level b is (close a)
      → KeepsItems rules level is → CountIs a (item_count is)
      → kept_parts n rules total (kept_item left rules total) (members a) (b ++ rest) ≡ Ok rest
  members_again no_items rules total level left n a b rest sum lt h keeps count =
      parts_over n rules total (kept_item left rules total) (members a) (b ++ rest) rest (omega arith)
      (none_left a 0 b rest count refl h)
  members_again (item i is) rules total level left n a b rest sum lt h keeps count =
      let m = less_one n (length (b ++ rest)) lt in
      let x = h.0 in
      let r = h.1 ++ rest in
      let parts = next_is b x h.1 rest h.2 in
      let its = strict_any level x i h.3 in
      let some = one_byte level x i its in
      let o = one_left a (item_count is) (x ++ r) count (no_break_at x r (spelled_begins level x i its)) in
      ap (kept_parts n rules total (kept_item left rules total) (members a)) parts
      ∙ parts_more n m.0 rules total (kept_item left rules total) (members a) (members (one_less a)) (x ++ r) r m.1
      o.some (item_again i rules total level left x r sum h.3 keeps.0) refl
      ∙ members_again is rules total level left m.0 (one_less a) h.1 rest sum
      (omega (arith, m.2, ap length parts, length-append x r))
      (subst (λ (e : List ℕ). SpellsItems strict level h.1 is e) o.same_end h.4) keeps.1 o.count

  pairs_again : (ps : Pairs) (rules : Rules) (total level left n : ℕ) (last : Option KeyAt) (seen : Places)
      (a : Argument) (b rest : List ℕ) → level + left ≡ 129 → length (b ++ rest) < n
      → SpellsPairs strict level b ps (close a) → KeepsPairs rules level ps → KeysOk rules last ps
      → KeysFresh rules seen ps → CountIs a (pair_count ps)
      → kept_parts n rules total (kept_item left rules total) (pairs last seen a) (b ++ rest) ≡ Ok rest
  pairs_again no_pairs rules total level left n last seen a b rest sum lt h keeps keys fresh count =
      parts_over n rules total (kept_item left rules total) (pairs last seen a) (b ++ rest) rest (omega arith)
      (none_left a 0 b rest count refl h)
  pairs_again (pair k v ps) rules total level left n last seen a b rest sum lt h keeps keys fresh count =
      let x = h.0 in
      let y = h.1 in
      let r = h.2 ++ rest in
      let s = y ++ r in
      let parts = next_is b x (y ++ h.2) rest h.3 ∙ ap (λ (z : List ℕ). x ++ z) (append_assoc y h.2 rest) in
      let its_key = strict_any level x k h.4 in
      let its_value = strict_any level y v h.5 in
      let some_key = one_byte level x k its_key in
      let some_value = one_byte level y v its_value in
      let m = less_one n (length (b ++ rest)) lt in
      let more : length s < m.0 = omega (arith, m.2, ap length parts, length-append x s) in
      let j = less_one m.0 (length s) more in
      let o = one_left a (pair_count ps) (x ++ s) count (no_break_at x s (spelled_begins level x k its_key)) in
      let key = key_at total (x ++ s) s in
      let more_seen = with_key rules key seen in
      let its_value = value key more_seen (one_less a) in
      let kept = key_kept rules total last seen x s level k v ps h.4 keys fresh in
      ap (kept_parts n rules total (kept_item left rules total) (pairs last seen a)) parts
      ∙ parts_more n m.0 rules total (kept_item left rules total) (pairs last seen a) its_value (x ++ s) s m.1 o.some
      (item_again k rules total level left x s sum h.4 keeps.0)
      (ap (λ q. unless total (x ++ s) q its_value) kept.none)
      ∙ parts_more m.0 j.0 rules total (kept_item left rules total) its_value
      (pairs (Some key) more_seen (one_less a)) s r j.1 refl (item_again v rules total level left y r sum h.5 keeps.1)
      refl
      ∙ pairs_again ps rules total level left j.0 (Some key) more_seen (one_less a) h.2 rest sum
      (omega (arith, j.2, length-append y r))
      (subst (λ (e : List ℕ). SpellsPairs strict level h.2 ps e) o.same_end h.6) keeps.2 kept.after kept.fresh o.count

-- ---- items one after the other

items_again : (is : Items) (n : ℕ) (rules : Rules) (total : ℕ) (b : List ℕ) → SpellsItems strict 1 b is []
    → KeepsItems rules 1 is → violation_from n rules total b ≡ None
unfolding violation_from
items_again is zero rules total b h keeps = refl
items_again is (suc n) rules total [] h keeps = refl
items_again no_items (suc n) rules total (first ∷ b) h keeps = absurd cc
items_again (item i is) (suc n) rules total (first ∷ b) h keeps =
    ap (λ x. violation_or (kept_item deepest rules total x) (violation_from n rules total)) h.2
    ∙ ap (λ q. violation_or q (violation_from n rules total))
    (item_again i rules total 1 deepest h.0 h.1 refl h.3 keeps.0)
    ∙ items_again is n rules total h.1 h.4 keeps.1

pub rules_again : (rules : Rules) (b : List ℕ) → KeepsRules rules b → first_violation rules b ≡ None
rules_again rules b h = items_again h.0 (length b) rules (length b) b h.1 h.2
