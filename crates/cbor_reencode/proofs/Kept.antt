-- Items that keep rules keep rules that ask for less (`AsksLess`), such as `lasting` and `without_memory`, and each
-- item is the same as itself (`IsSame`). Bytes that keep the rules are a re-encoding (`IsReencoded`) of themselves. The
-- bytes that were written for a sequence (`Sequence`) are a re-encoding of it if they keep the rules.
use Rattle.std.proofs.Common.{◌≡◌, ℕ, ◌+◌, Bool, true, false, List, [], ◌∷◌, Option, Some, None, refl}
use Rattle.std.proofs.Common.{sym, subst, ◌≤◌, ◌⊎◌, inl, inr}
use Rattle.std.specs.Prelude.{IsTrue}
use Rattle.std.specs.List.{AllByRecursion}
use Rattle.cbor_grammar.specs.declared.width.IntegerWidth.{IntegerWidth}
use Rattle.cbor_grammar.specs.Item as spec
use Rattle.cbor_grammar.specs.Item.{Chunk, Atom, integer, negative, string, chunked_string, float, simple, Item, atom}
use Rattle.cbor_grammar.specs.Item.{array, tagged, Items, no_items, item, Pairs, no_pairs, pair, item_count, pair_count}
use Rattle.cbor_grammar.specs.Bytes.{strict, SpellsItems}
use Rattle.cbor_grammar.specs.Written.{encoded}
use Rattle.cbor_rules.specs.declared.rules.Rules.{Rules}
use Rattle.cbor_rules.specs.declared.rules.KeyOrder.{KeyOrder}
use Rattle.cbor_rules.specs.FirstViolation.{first_violation}
use Rattle.cbor_rules.proofs.AgainItems.{rules_again}
use Rattle.cbor_grammar.specs.declared.strings.StringKind.{StringKind}
use Rattle.cbor_grammar.specs.declared.strings.StringKind.TheVariants.{Bytes, Text}
use Rattle.cbor_rules.specs.declared.rules.KeyOrder.TheVariants.{Any}
use Rattle.cbor_rules.specs.Keeps.{KeepsContent, KeepsChunk, KeepsCount, KeepsSimple, KeepsAtom, KeysInOrder, KeysAfter}
use Rattle.cbor_rules.specs.Keeps.{Keeps, KeepsItems, without_memory}
use Rattle.cbor_rules.specs.Keeps.{KeepsPairs, KeepsRules}
use Rattle.cbor_rules.specs.Same.{IsSame, SameItems, SamePairs}
use Rattle.cbor_reencode.specs.Reduction.{reduced_items}
use Rattle.cbor_reencode.specs.Reencoded.{IsReencoded, lasting}
use Rattle.cbor_reencode.specs.mirror.Rewritten.{Sequence}
use Rattle.cbor_reencode.proofs.Spelled.{items_once}

-- ---- rules that ask for less

pub off : {A : Type 0} → ◌≡◌ {A = Bool} false true → A
off e = absurd cc

-- what keeps the rules keeps these others, too
pub record AsksLess (rules less : Rules) : Type 0 where
  pub heads : IsTrue less.shortest_heads → IsTrue rules.shortest_heads
  pub floats : IsTrue less.shortest_floats → IsTrue rules.shortest_floats
  pub reduced : IsTrue less.reduced_floats → IsTrue rules.reduced_floats
  pub simple : IsTrue rules.other_simple → IsTrue less.other_simple
  pub lengths : IsTrue less.definite_lengths → IsTrue rules.definite_lengths
  pub big : IsTrue less.big_numbers → IsTrue rules.big_numbers
  pub nfc : IsTrue less.nfc → IsTrue rules.nfc
  pub order : (less.key_order ≡ Any) ⊎ (less.key_order ≡ rules.key_order)
  pub distinct : IsTrue less.distinct_keys → IsTrue rules.distinct_keys
  pub tags : IsTrue rules.tags → IsTrue less.tags
  pub deepest : less.deepest ≡ rules.deepest

module _ (rules less : Rules) (l : AsksLess rules less) where
  content_kept : (kind : StringKind) (b : List ℕ) → KeepsContent rules kind b → KeepsContent less kind b
  content_kept Text b h = λ on. h (l.nfc on)
  content_kept Bytes b h = tt

  chunk_kept : (kind : StringKind) (c : Chunk) → KeepsChunk rules kind c → KeepsChunk less kind c
  chunk_kept kind c h = (λ on. h.0 (l.heads on), content_kept kind c.bytes h.1)

  chunks_kept : (kind : StringKind) (cs : List Chunk) → AllByRecursion (KeepsChunk rules kind) cs
      → AllByRecursion (KeepsChunk less kind) cs
  chunks_kept kind [] h = tt
  chunks_kept kind (c ∷ cs) h = (chunk_kept kind c h.0, chunks_kept kind cs h.1)

  count_kept : (n : ℕ) (w : Option IntegerWidth) → KeepsCount rules n w → KeepsCount less n w
  count_kept n (Some w) h = λ on. h (l.heads on)
  count_kept n None h = λ on. h (l.lengths on)

  simple_kept : (n : ℕ) → KeepsSimple rules n → KeepsSimple less n
  simple_kept n h = (h.0, elim h.1 [ inl on ↦ inl (l.simple on) | inr is ↦ inr is ])

  atom_kept : (a : Atom) → KeepsAtom rules a → KeepsAtom less a
  atom_kept (integer n w) h = λ on. h (l.heads on)
  atom_kept (negative n w) h = λ on. h (l.heads on)
  atom_kept (string kind c) h = chunk_kept kind c h
  atom_kept (chunked_string kind cs) h = (λ on. h.0 (l.lengths on), chunks_kept kind cs h.1)
  atom_kept (float bits w) h = (λ on. h.0 (l.reduced on), λ on. h.1 (l.floats on))
  atom_kept (simple n) h = simple_kept n h

  any_after : (ps : Pairs) (last : List ℕ) → KeysAfter Any last ps
  any_after no_pairs last = tt
  any_after (pair k v ps) last = (refl, any_after ps (encoded k))

  any_order : (ps : Pairs) → KeysInOrder Any ps
  any_order no_pairs = tt
  any_order (pair k v ps) = any_after ps (encoded k)

  order_kept : (ps : Pairs) → KeysInOrder rules.key_order ps → KeysInOrder less.key_order ps
  order_kept ps h =
      elim l.order [
        | inl any ↦ subst (λ (o : KeyOrder). KeysInOrder o ps) (sym any) (any_order ps)
        | inr same ↦ subst (λ (o : KeyOrder). KeysInOrder o ps) (sym same) h
      ]

  level_kept : (level : ℕ) → level ≤ rules.deepest → level ≤ less.deepest
  level_kept level h = subst (λ n. level ≤ n) (sym l.deepest) h

  mutual
    item_kept : (level : ℕ) (i : Item) → Keeps rules level i → Keeps less level i
    item_kept level (atom a) h = atom_kept a h
    item_kept level (array is w) h =
        (level_kept level h.0, count_kept (item_count is) w h.1, items_kept (level + 1) is h.2)
    item_kept level (spec.map ps w) h = (
      level_kept level h.0,
      count_kept (pair_count ps) w h.1,
      pairs_kept (level + 1) ps h.2,
      order_kept ps h.3,
      λ on. h.4 (l.distinct on),
    )
    item_kept level (tagged t w i) h = (
      l.tags h.0,
      λ on. h.1 (l.heads on),
      λ on. h.2 (l.big on),
      item_kept (level + 1) i h.3,
    )

    pub items_kept : (level : ℕ) (is : Items) → KeepsItems rules level is → KeepsItems less level is
    items_kept level no_items h = tt
    items_kept level (item i is) h = (item_kept level i h.0, items_kept level is h.1)

    pairs_kept : (level : ℕ) (ps : Pairs) → KeepsPairs rules level ps → KeepsPairs less level ps
    pairs_kept level no_pairs h = tt
    pairs_kept level (pair k v ps) h = (item_kept level k h.0, item_kept level v h.1, pairs_kept level ps h.2)

  pub rules_kept : (b : List ℕ) → KeepsRules rules b → KeepsRules less b
  rules_kept b h = (h.0, h.1, items_kept 1 h.0 h.2)

-- the rules that last ask for less, and so do those whose check takes no memory
pub last_less : (rules : Rules) → AsksLess rules (lasting rules)
last_less rules = record {
  heads = λ on. off on;
  floats = λ on. off on;
  reduced = λ on. off on;
  simple = λ on. on;
  lengths = λ on. off on;
  big = λ on. off on;
  nfc = λ on. on;
  order = inl refl;
  distinct = λ on. on;
  tags = λ on. on;
  deepest = refl;
}

-- bytes that keep the rules keep those that last
pub none_lasts : (rules : Rules) (b : List ℕ) → KeepsRules rules b → first_violation (lasting rules) b ≡ None
none_lasts rules b keeps = rules_again (lasting rules) b (rules_kept rules (lasting rules) (last_less rules) b keeps)

pub free_less : (rules : Rules) → AsksLess rules (without_memory rules)
free_less rules = record {
  heads = λ on. on;
  floats = λ on. on;
  reduced = λ on. on;
  simple = λ on. on;
  lengths = λ on. on;
  big = λ on. on;
  nfc = λ on. off on;
  order = inr refl;
  distinct = λ on. off on;
  tags = λ on. on;
  deepest = refl;
}

-- ---- the same items

mutual
  pub same_item : (floats : Bool) (i : Item) → IsSame floats i i
  same_item floats (atom a) = refl
  same_item floats (array is w) = same_items floats is
  same_item floats (spec.map ps w) = same_pairs floats ps
  same_item floats (tagged t w i) = (refl, same_item floats i)

  pub same_items : (floats : Bool) (is : Items) → SameItems floats is is
  same_items floats no_items = tt
  same_items floats (item i is) = (same_item floats i, same_items floats is)

  same_pairs : (floats : Bool) (ps : Pairs) → SamePairs floats ps ps
  same_pairs floats no_pairs = refl
  same_pairs floats (pair k v ps) =
      (no_pairs, ps, k, v, refl, same_item floats k, same_item floats v, same_pairs floats ps)

pub reencoded_itself : (rules : Rules) (b : List ℕ) → KeepsRules rules b → IsReencoded rules b b
unfolding rules_kept
reencoded_itself rules b h = record {
  items = h.0;
  spells = h.1;
  written = h.0;
  kept = record { spells = h.1; keeps = (rules_kept rules (without_memory rules) (free_less rules) b h).2 };
  same = same_items rules.shortest_floats (reduced_items rules h.0);
}

-- what was written for the items, where it keeps the rules
pub sequence_reencoded : (rules : Rules) (b new : List ℕ) → Sequence rules b [] new → KeepsRules rules new
    → IsReencoded rules b new
sequence_reencoded rules b new s keeps =
    let spells : SpellsItems strict 1 new s.written [] =
    subst (λ (x : List ℕ). SpellsItems strict 1 x s.written []) (sym s.added) s.written_spells in
    let one = items_once keeps.0 s.written new new refl keeps.1 spells in
    record {
      items = s.items;
      spells = s.spells;
      written = s.written;
      kept = record {
        spells = spells;
        keeps = items_kept rules (without_memory rules) (free_less rules) 1 s.written
            (subst (λ (is : Items). KeepsItems rules 1 is) one keeps.2);
      };
      same = s.same;
    }
