-- Items that are embedded in the content of a byte string: the item that the bytes encode (`embedded`; RFC 7049 section
-- 2.4.4.1), or the longest sequence of items that they begin with (`sequence`; RFC 8742). `Embeds` says what these two
-- mean, and `Rejects` what reading gives for bytes that are not one item, both by the grammar of bytes alone.
use Rattle.std.specs.Prelude.{◌≡◌, ◌↔◌, ℕ, zero, suc, ◌+◌, ◌<◌, ◌≤◌, List, [], ◌++◌, length, take, drop, slice_index}
use Rattle.std.specs.Prelude.{Option, Some, None, Ok, Err}
use Rattle.cbor_grammar.specs.declared.error.Error.{Error}
use Rattle.cbor_grammar.specs.declared.error.Error.TheVariants.{CutShort}
use Rattle.cbor_grammar.specs.WellFormed.{deepest, levels_left}
use Rattle.cbor_grammar.specs.Bytes.{any, Spells, SpellsItems}
use Rattle.cbor_grammar.specs.Refused.{Cut, Fault}
use Rattle.cbor_grammar.specs.Item.{Item, Items, no_items, item}
use Rattle.cbor_grammar.specs.Reading.{Read, read_item}

-- the item that was read, where no bytes are left
abbrev pub if_whole : Read Item → Option Item
if_whole (Ok (i, [])) = Some i
if_whole _ = None

-- the item that the bytes encode, with `left` levels left for it
abbrev pub embedded_at : ℕ → List ℕ → Option Item
embedded_at left b = if_whole (read_item left b)

-- The item that the bytes encode at this level, if there is one: `embedded level b` is `Some e` if and only if
-- `Spells any level b e`, as `Embeds` below says.
abbrev pub embedded : ℕ → List ℕ → Option Item
embedded level b = embedded_at (levels_left level) b

-- an item before others and their rest
abbrev pub before : Item → Items × List ℕ → Items × List ℕ
before i s = (item i s.0, s.1)

-- the items that follow in what is left after an item, or none where no item was read
abbrev pub and_then : (List ℕ → Items × List ℕ) → List ℕ → Read Item → Items × List ℕ
and_then more b (Ok x) = before x.0 (more x.1)
and_then more b (Err e) = (no_items, b)

-- As many items as can be read in sequence, and the rest. The number bounds how many items are read; bytes never have
-- more items than bytes.
unfoldable pub sequence_of : (List ℕ → Read Item) → ℕ → List ℕ → Items × List ℕ
sequence_of read zero b = (no_items, b)
sequence_of read (suc n) b = and_then (sequence_of read n) b (read b)

abbrev pub sequence_at : ℕ → List ℕ → Items × List ℕ
sequence_at left b = sequence_of (read_item left) (length b) b

-- The longest sequence of items whose encodings at this level, joined, are a front of the bytes, and the rest, which
-- begins with no item, as `Embeds` below says.
abbrev pub sequence : ℕ → List ℕ → Items × List ℕ
sequence level b = sequence_at (levels_left level) b

-- What `embedded` and `sequence` mean at this level, by the grammar of bytes alone: the item that the bytes encode;
-- the longest sequence of items at their front, and a rest that begins with none.
pub record Embeds (level : ℕ) (b : List ℕ) : Type 0 where
  pub one : (e : Item) → (embedded level b ≡ Some e) ↔ Spells any level b e
  pub items : SpellsItems any level b (sequence level b).0 (sequence level b).1
  pub longest : (x rest : List ℕ) (e : Item) → (sequence level b).1 ≡ x ++ rest → ¬ (Spells any level x e)

-- They mean so of all bytes, read from any level from 1 to one past the deepest, where there is no item.
abbrev pub EmbedsExactly : Type 0
EmbedsExactly = (level : ℕ) (b : List ℕ) → 1 ≤ level → level ≤ deepest + 1
    → ((i : ℕ) → slice_index b i < 256) → Embeds level b

-- What reading bytes that are not one item gives at this level, by the grammar of bytes alone: that they are
-- cut, which fault they have, or the item that some first bytes are and the bytes that remain.
pub record Rejects (level : ℕ) (b : List ℕ) : Type 0 where
  pub cut : Cut level b → read_item (levels_left level) b ≡ Err CutShort
  pub fault : (e : Error) → Fault level b e → read_item (levels_left level) b ≡ Err e
  pub front : (n : ℕ) (i : Item) → n ≤ length b → Spells any level (take n b) i
      → read_item (levels_left level) b ≡ Ok (i, drop n b)

-- It gives this for all bytes, read from any level up to one past the deepest.
abbrev pub RejectsExactly : Type 0
RejectsExactly = (level : ℕ) (b : List ℕ) → level ≤ deepest + 1 → Rejects level b
