-- Bytes that encode an item are at least as many as `size` counts: the item, each item in it, and each chunk of a
-- string of indefinite length.
use Rattle.std.proofs.Common.{ℕ, ◌+◌, ◌≤◌, List, [], ◌∷◌, ◌++◌, length, Option, Some, None, ap, arith}
use Rattle.std.proofs.lemmas.List.{length-append}
use Rattle.cbor_grammar.specs.declared.width.IntegerWidth.{IntegerWidth}
use Rattle.cbor_grammar.specs.Item as spec
use Rattle.cbor_grammar.specs.Item.{Chunk, Atom, integer, negative, string, chunked_string, float, simple, Item, atom}
use Rattle.cbor_grammar.specs.Item.{array, tagged, Items, no_items, item, Pairs, no_pairs, pair, item_count, pair_count}
use Rattle.cbor_grammar.specs.Head.{break_byte}
use Rattle.cbor_grammar.specs.Bytes.{any, OpenThen, SpellsChunks, MembersThen, Spells, SpellsItems, SpellsPairs}
use Rattle.cbor_grammar.specs.declared.strings.StringKind.{StringKind}
use Rattle.cbor_grammar.specs.StringKind.{major_of}
use Rattle.cbor_grammar.specs.Answer.{atom_size, size, items_size, pairs_size}
use Rattle.cbor_grammar.proofs.bytes.Heads.{head_shorter}
use Rattle.cbor_grammar.proofs.bytes.Chunks.{chunk_parts}
use Rattle.cbor_grammar.proofs.bytes.FoundAgain.{spelled_begins}

chunks_bound : (kind : StringKind) (cs : List Chunk) (b end : List ℕ) → SpellsChunks kind b cs end
    → length cs ≤ length b
chunks_bound kind [] b end h = omega arith
chunks_bound kind (c ∷ cs) b end h =
    let p = chunk_parts kind b c (λ rest. SpellsChunks kind rest cs end) h in
    omega (arith, p.shorter, chunks_bound kind cs p.rest end p.holds)

pub open_bound : (kind : StringKind) (major : ℕ) (cs : List Chunk) (b : List ℕ)
    → OpenThen major b (λ rest. SpellsChunks kind rest cs (break_byte ∷ [])) → 1 + length cs ≤ length b
open_bound kind major cs b h = omega (arith, ap length h.1, chunks_bound kind cs h.0 (break_byte ∷ []) h.2)

pub one_byte : (level : ℕ) (b : List ℕ) (i : Item) → Spells any level b i → 1 ≤ length b
one_byte level b i h = let s = spelled_begins level b i h in omega (arith, ap length s.parts)

atom_bound : (level : ℕ) (b : List ℕ) (a : Atom) → Spells any level b (atom a) → atom_size a ≤ length b
atom_bound level b (chunked_string kind cs) h = open_bound kind (major_of kind) cs b h.1
atom_bound level b a h = one_byte level b (atom a) h

-- members that are no more than the bytes after a container's first
members_bound : (major n : ℕ) (w : Option IntegerWidth) (b : List ℕ) (Members : List ℕ → List ℕ → Type 0) (held : ℕ)
    → MembersThen major n w b Members
    → ((rest end : List ℕ) → Members rest end → held ≤ length rest) → 1 + held ≤ length b
members_bound major n (Some w) b Members held h then = omega (arith, head_shorter major n w b _ h, then h.1 [] h.3)
members_bound major n None b Members held h then = omega (arith, ap length h.1, then h.0 (break_byte ∷ []) h.2)

mutual
  pub items_bound : (level : ℕ) (b : List ℕ) (i : Item) → Spells any level b i → size i ≤ length b
  items_bound level b (atom a) h = atom_bound level b a h
  items_bound level b (array is w) h = members_bound 4 (item_count is) w b _ (items_size is) h.1
      (λ rest end s. members_count (level + 1) rest is end s)
  items_bound level b (spec.map ps w) h = members_bound 5 (pair_count ps) w b _ (pairs_size ps) h.1
      (λ rest end s. pairs_bound (level + 1) rest ps end s)
  items_bound level b (tagged t w i) h = omega
      (arith, head_shorter 6 t w b _ h.1, items_bound (level + 1) h.1.1 i h.1.3)

  members_count : (level : ℕ) (b : List ℕ) (is : Items) (end : List ℕ) → SpellsItems any level b is end
      → items_size is ≤ length b
  members_count level b no_items end h = omega arith
  members_count level b (item i is) end h =
      omega (
        arith,
        ap length h.2,
        length-append h.0 h.1,
        items_bound level h.0 i h.3,
        members_count level h.1 is end h.4,
      )

  pairs_bound : (level : ℕ) (b : List ℕ) (ps : Pairs) (end : List ℕ) → SpellsPairs any level b ps end
      → pairs_size ps ≤ length b
  pairs_bound level b no_pairs end h = omega arith
  pairs_bound level b (pair k v ps) end h =
      omega (
        arith,
        ap length h.3,
        length-append h.0 (h.1 ++ h.2),
        length-append h.1 h.2,
        items_bound level h.0 k h.4,
        items_bound level h.1 v h.5,
        pairs_bound level h.2 ps end h.6,
      )
