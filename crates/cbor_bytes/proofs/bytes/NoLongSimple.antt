-- For `holds_long_simple` in `strict.rt`: bytes that spell an item spell it strictly if nowhere in them, at a head or
-- not, a byte below 24 follows 0xf8 (`NoLongSimple`). If a search from one 0xf8 to the next finds no such pair, they
-- have none.
use Rattle.std.proofs.Common.{◌≡◌, ℕ, zero, suc, ◌+◌, ◌≤◌, true, List, [], ◌∷◌, ◌++◌, length, drop}
use Rattle.std.proofs.Common.{◌∙◌, get_or, Option, Some, None, inl, inr, refl, sym, ap, subst, arith}
use Rattle.std.proofs.lemmas.Bool.{cases_lt, eq-eqb}
use Rattle.memchr.specs.Find.{IsFirstByte, is_byte}
use Rattle.cbor_grammar.specs.declared.width.IntegerWidth.{IntegerWidth}
use Rattle.cbor_grammar.specs.Head.{head, opening}
use Rattle.cbor_grammar.specs.Item as spec
use Rattle.cbor_grammar.specs.Item.{integer, negative, string, chunked_string, float, simple, Item, atom}
use Rattle.cbor_grammar.specs.Item.{array, tagged, Items, no_items, item, Pairs, no_pairs, pair, item_count, pair_count}
use Rattle.cbor_grammar.specs.Bytes.{any, strict, MembersThen, Spells, SpellsItems, SpellsPairs}
use Rattle.cbor_grammar.specs.mirror.StrictHeads.{LongSimple, NoLongSimple}

-- ---- parts of bytes

longer : (x rest : List ℕ) (k : ℕ) → LongSimple (drop k x) → LongSimple (drop k (x ++ rest))
longer [] rest zero long = absurd long
longer [] rest (suc k) long = absurd long
longer (a ∷ []) rest zero long = absurd long
longer (a ∷ (n ∷ x)) rest zero long = long
longer (a ∷ x) rest (suc k) long = longer x rest k long

in_front : (x rest : List ℕ) → NoLongSimple (x ++ rest) → NoLongSimple x
in_front x rest none = λ k long. none k (longer x rest k long)

behind : (x rest : List ℕ) → NoLongSimple (x ++ rest) → NoLongSimple rest
behind [] rest none = none
behind (a ∷ x) rest none = behind x rest (λ k. none (suc k))

-- ---- items

members_strict : (major n : ℕ) (w : Option IntegerWidth) (b : List ℕ) (Any Strict : List ℕ → List ℕ → Type 0)
    → ((rest end : List ℕ) → Any rest end → NoLongSimple rest → Strict rest end)
    → MembersThen major n w b Any → NoLongSimple b → MembersThen major n w b Strict
members_strict major n (Some w) b Any Strict each (fits, rest, is, members) none =
    (fits, rest, is, each rest [] members (behind (head major n w) rest (subst NoLongSimple is none)))
members_strict major n None b Any Strict each (rest, is, members) none =
    (rest, is, each rest _ members (behind (opening major ∷ []) rest (subst NoLongSimple is none)))

mutual
  item_strict : (level : ℕ) (b : List ℕ) (i : Item) → Spells any level b i → NoLongSimple b → Spells strict level b i
  item_strict level b (atom (integer n w)) h none = h
  item_strict level b (atom (negative n w)) h none = h
  item_strict level b (atom (string kind c)) h none = h
  item_strict level b (atom (chunked_string kind cs)) h none = h
  item_strict level b (atom (float bits w)) h none = h
  item_strict level b (atom (simple n)) (le, inl h) none = (le, inl h)
  item_strict level b (atom (simple n)) (le, inr h) none =
      elim (cases_lt n 24) [
        | inl lt ↦ absurd (none 0 (subst LongSimple (sym h.1) (refl, lt)))
        | inr least ↦ (le, inr (least, h.0, h.1))
      ]
  item_strict level b (array is w) h none = (
    h.0,
    members_strict 4 (item_count is) w b _ _ (λ rest end m n. items_strict (level + 1) rest is end m n) h.1 none,
  )
  item_strict level b (spec.map ps w) h none = (
    h.0,
    members_strict 5 (pair_count ps) w b _ _ (λ rest end m n. pairs_strict (level + 1) rest ps end m n) h.1 none,
  )
  item_strict level b (tagged t w i) (le, (fits, rest, is, below)) none =
      let inner = behind (head 6 t w) rest (subst NoLongSimple is none) in
      (le, (fits, rest, is, item_strict (level + 1) rest i below inner))

  items_strict : (level : ℕ) (b : List ℕ) (is : Items) (end : List ℕ) → SpellsItems any level b is end
      → NoLongSimple b → SpellsItems strict level b is end
  items_strict level b no_items end h none = h
  items_strict level b (item i is) end h none =
      let whole = subst NoLongSimple h.2 none in
      let first = item_strict level h.0 i h.3 (in_front h.0 h.1 whole) in
      (h.0, h.1, h.2, first, items_strict level h.1 is end h.4 (behind h.0 h.1 whole))

  pairs_strict : (level : ℕ) (b : List ℕ) (ps : Pairs) (end : List ℕ) → SpellsPairs any level b ps end
      → NoLongSimple b → SpellsPairs strict level b ps end
  pairs_strict level b no_pairs end h none = h
  pairs_strict level b (pair k v ps) end h none =
      let whole = subst NoLongSimple h.3 none in
      let after = behind h.0 (h.1 ++ h.2) whole in
      let key = item_strict level h.0 k h.4 (in_front h.0 (h.1 ++ h.2) whole) in
      let value = item_strict level h.1 v h.5 (in_front h.1 h.2 after) in
      (h.0, h.1, h.2, h.3, key, value, pairs_strict level h.2 ps end h.6 (behind h.1 h.2 after))

-- an item spelled in such bytes is spelled strictly
pub plainly_spelled : (level : ℕ) (b : List ℕ) (i : Item) → Spells any level b i → NoLongSimple b
    → Spells strict level b i
plainly_spelled = item_strict

-- ---- steps of the search

long_first : (b : List ℕ) → LongSimple b → is_byte 0xf8 (get_or b 0 0) ≡ true
long_first (first ∷ (n ∷ b)) long = eq-eqb first 0xf8 long.0
long_first (first ∷ []) long = absurd long
long_first [] long = absurd long

-- where the byte at a place is another, no such value stands there
elsewhere : (b : List ℕ) (k : ℕ) → ¬ (is_byte 0xf8 (get_or b k 0) ≡ true) → ¬ (LongSimple (drop k b))
elsewhere [] zero other = λ long. long
elsewhere [] (suc k) other = λ long. long
elsewhere (first ∷ b) zero other = λ long. other (long_first (first ∷ b) long)
elsewhere (first ∷ b) (suc k) other = elsewhere b k other

-- and none stands past the end
past_end : (b : List ℕ) (k : ℕ) → length b ≤ k → ¬ (LongSimple (drop k b))
past_end [] zero le = λ long. long
past_end [] (suc k) le = λ long. long
past_end (first ∷ b) zero le = absurd (omega (arith, le))
past_end (first ∷ b) (suc k) le = past_end b k (omega (arith, le))

-- bytes where none is found have no such value
pub found_none : (b : List ℕ) → IsFirstByte (is_byte 0xf8) b None → NoLongSimple b
found_none b none k =
    elim (cases_lt k (length b)) [
      | inl lt ↦ elsewhere b k (none k (omega arith) lt)
      | inr le ↦ past_end b k le
    ]

-- none stands from a place on where none stands there nor after it
later : (b : List ℕ) (at k : ℕ) → at ≤ k → ¬ (LongSimple (drop at b)) → NoLongSimple (drop 1 (drop at b))
    → ¬ (LongSimple (drop k b))
later [] at zero le here after = λ long. long
later [] at (suc k) le here after = λ long. long
later (first ∷ b) zero zero le here after = here
later (first ∷ b) zero (suc k) le here after = after k
later (first ∷ b) (suc at) zero le here after = absurd (omega (arith, le))
later (first ∷ b) (suc at) (suc k) le here after = later b at k (omega (arith, le)) here after

-- where none stands at the first place that is found, nor after it, none stands anywhere
pub found_after : (b : List ℕ) (at : ℕ) (found after : List ℕ) → IsFirstByte (is_byte 0xf8) b (Some at)
    → found ≡ drop at b → after ≡ drop 1 found → ¬ (LongSimple found) → NoLongSimple after → NoLongSimple b
found_after b at found after first here next other none k =
    elim (cases_lt k at) [
      | inl lt ↦ elsewhere b k (first.0.before k (omega arith) lt)
      | inr le ↦
          later b at k le (λ long. other (subst LongSimple (sym here) long)) (λ n long. none n (subst LongSimple
          (sym (ap (drop n) next ∙ ap (λ (x : List ℕ). drop n (drop 1 x)) here)) long))
    ]
