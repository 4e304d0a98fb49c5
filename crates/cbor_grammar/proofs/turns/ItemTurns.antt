-- An item takes at most twice as many turns (`item_turns`) as it has bytes. All proofs that the same bytes are cut
-- (`Cut`) have the same `cut_spent`, and all proofs of the same fault (`Fault`) have the same `fault_spent`.
use Rattle.std.proofs.Common.{◌≡◌, ℕ, ◌+◌, ◌*◌, ◌≤◌, List, [], ◌∷◌, ◌++◌, length, Option, Some, None, sym, ap, ◌∙◌}
use Rattle.std.proofs.Common.{arith}
use Rattle.std.proofs.lemmas.List.{length-append}
use Rattle.cbor_grammar.specs.declared.width.IntegerWidth.{IntegerWidth}
use Rattle.cbor_grammar.specs.declared.error.Error.{Error}
use Rattle.cbor_grammar.specs.Item as spec
use Rattle.cbor_grammar.specs.Item.{Atom, chunked_string, Item, atom, array, tagged, Items, no_items, item, Pairs}
use Rattle.cbor_grammar.specs.Item.{no_pairs, pair, item_count, pair_count}
use Rattle.cbor_grammar.specs.Bytes.{any, MembersThen, Spells, SpellsItems, SpellsPairs}
use Rattle.cbor_grammar.specs.StringKind.{major_of}
use Rattle.cbor_grammar.specs.Head.{break_byte}
use Rattle.cbor_grammar.specs.Refused.{Cut, nothing, in_head, in_content, in_chunk, in_part, Fault}
use Rattle.cbor_grammar.specs.Reading.{Counted}
use Rattle.cbor_grammar.specs.Turns.{atom_turns, item_turns, items_turns, pairs_turns, cut_spent, fault_spent}
use Rattle.cbor_grammar.proofs.bytes.Heads.{head_shorter}
use Rattle.cbor_grammar.proofs.bytes.Faults.{left_at, fault_level}
use Rattle.cbor_grammar.proofs.bytes.RefusedAgain.{cut_turns, fault_turns}
use Rattle.cbor_grammar.proofs.bytes.Sizes.{open_bound, one_byte}

-- ---- at most twice the bytes

members_few : (major n : ℕ) (w : Option IntegerWidth) (b : List ℕ) (Members : List ℕ → List ℕ → Type 0) (held : ℕ)
    → MembersThen major n w b Members
    → ((rest end : List ℕ) → Members rest end → held ≤ 2 * length rest) → 2 + held ≤ 2 * length b
members_few major n (Some w) b Members held h then = omega (arith, head_shorter major n w b _ h, then h.1 [] h.3)
members_few major n None b Members held h then = omega (arith, ap length h.1, then h.0 (break_byte ∷ []) h.2)

atom_few : (level : ℕ) (b : List ℕ) (a : Atom) → Spells any level b (atom a) → atom_turns a ≤ 2 * length b
atom_few level b (chunked_string kind cs) h = omega (arith, open_bound kind (major_of kind) cs b h.1)
atom_few level b a h = omega (arith, one_byte level b (atom a) h)

mutual
  pub turns_few : (level : ℕ) (b : List ℕ) (i : Item) → Spells any level b i → item_turns i ≤ 2 * length b
  turns_few level b (atom a) h = atom_few level b a h
  turns_few level b (array is w) h = members_few 4 (item_count is) w b _ (items_turns is) h.1
      (λ rest end s. items_few (level + 1) rest is end s)
  turns_few level b (spec.map ps w) h = members_few 5 (pair_count ps) w b _ (pairs_turns ps) h.1
      (λ rest end s. pairs_few (level + 1) rest ps end s)
  turns_few level b (tagged t w i) h = omega (arith, head_shorter 6 t w b _ h.1, turns_few (level + 1) h.1.1 i h.1.3)

  items_few : (level : ℕ) (b : List ℕ) (is : Items) (end : List ℕ) → SpellsItems any level b is end
      → items_turns is ≤ 2 * length b
  items_few level b no_items end h = omega arith
  items_few level b (item i is) end h = omega
      (arith, ap length h.2, length-append h.0 h.1, turns_few level h.0 i h.3, items_few level h.1 is end h.4)

  pairs_few : (level : ℕ) (b : List ℕ) (ps : Pairs) (end : List ℕ) → SpellsPairs any level b ps end
      → pairs_turns ps ≤ 2 * length b
  pairs_few level b no_pairs end h = omega arith
  pairs_few level b (pair k v ps) end h =
      omega (
        arith,
        ap length h.3,
        length-append h.0 (h.1 ++ h.2),
        length-append h.1 h.2,
        turns_few level h.0 k h.4,
        turns_few level h.1 v h.5,
        pairs_few level h.2 ps end h.6,
      )

-- ---- one count, however it is shown

cut_level : {level : ℕ} {b : List ℕ} → Cut level b → level ≤ 129
cut_level (nothing le) = omega arith
cut_level (in_head le h) = omega arith
cut_level (in_content kind le h) = omega arith
cut_level (in_chunk kind rest le inside h) = omega arith
cut_level (in_part next rest le inside c) = omega arith

pub one_cut_spent : (level : ℕ) (b : List ℕ) (c d : Cut level b) → cut_spent c ≡ cut_spent d
one_cut_spent level b c d =
    let at = left_at level (cut_level c) in
    let same : cut_spent c + 1 ≡ cut_spent d + 1 =
    ap (λ (x : Counted Item). x.0) (sym (cut_turns level at.0 b at.1 c) ∙ cut_turns level at.0 b at.1 d) in
    omega arith

pub one_fault_spent : (level : ℕ) (b : List ℕ) (e : Error) (f g : Fault level b e) → fault_spent f ≡ fault_spent g
one_fault_spent level b e f g =
    let at = left_at level (fault_level f) in
    let same : fault_spent f + 1 ≡ fault_spent g + 1 =
    ap (λ (x : Counted Item). x.0) (sym (fault_turns level at.0 b e at.1 f) ∙ fault_turns level at.0 b e at.1 g) in
    omega arith
