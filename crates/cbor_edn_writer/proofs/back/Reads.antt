-- Definitions for the files beside this one: how the text of an item is read back in EDN. `ReadsAs`: the reader takes
-- the text without the note at its end, and returns an item with the same encoding, before any rest that may follow an
-- item. `ReadsNoted` says the same of a text that may have a note before the item and up to two after it.
use Rattle.std.proofs.Common.{◌≡◌, ℕ, List, [], ◌∷◌, ◌++◌, true, Some, ◌==◌, ◌||◌}
pub use Rattle.cbor_edn_grammar.proofs.Ends.{ends_item, is_ended, Follows, begins_item, IsBegun}
use Rattle.cbor_grammar.specs.Item.{Item}
use Rattle.cbor_grammar.specs.Written.{encoded}
use Rattle.cbor_edn_writer.proofs.Comments.{AnyNote}
use Rattle.cbor_edn_grammar.specs.Blank.{skip_blank}
use Rattle.cbor_edn_grammar.specs.Items.{read_item}

-- The text of an item, perhaps with a note after it. Whatever follows, the reader takes the text up to the note, as an
-- item of the same encoding.
pub record ReadsAs (left : ℕ) (i : Item) (text : List ℕ) : Type 0 where
  pub item : Item
  pub core : List ℕ
  pub note : List ℕ
  pub parts : text ≡ core ++ note
  pub is_note : AnyNote note
  pub begun : IsBegun core
  pub read : (rest : List ℕ) → Follows rest → read_item left (core ++ rest) ≡ Some (item, rest)
  pub same : encoded item ≡ encoded i

-- a note after an item, and another one
abbrev pub AreNotes : List ℕ → Type 0
AreNotes t = (first second : List ℕ) × AnyNote first × AnyNote second × (t ≡ first ++ second)

-- the first byte of an item, or of a note before it
abbrev pub IsStarted : List ℕ → Type 0
IsStarted [] = ⊥
IsStarted (b ∷ text) = (begins_item b || (b == 47)) ≡ true

-- The same with notes of the item's own: one may be before it, where blanks are passed, and one more after it.
pub record ReadsNoted (left : ℕ) (i : Item) (text : List ℕ) : Type 0 where
  pub item : Item
  pub before : List ℕ
  pub core : List ℕ
  pub notes : List ℕ
  pub parts : text ≡ before ++ (core ++ notes)
  pub are_notes : AreNotes notes
  pub started : IsStarted text
  pub skips : (rest : List ℕ) → skip_blank (text ++ rest) ≡ core ++ (notes ++ rest)
  pub begun : IsBegun core
  pub read : (rest : List ℕ) → Follows rest → read_item left (core ++ rest) ≡ Some (item, rest)
  pub same : encoded item ≡ encoded i
