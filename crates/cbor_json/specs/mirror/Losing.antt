-- For `loss.rt`: what a `Stop` says of an item, of the bytes after its head, or of a key: the first thing there that
-- JSON does not keep, or that no item is there.
use Rattle.std.specs.Prelude.{◌≡◌, ◌≤◌, ℕ, List, length, false, Ok}
use Rattle.cbor_grammar.specs.declared.head.ItemHead.{ItemHead}
use Rattle.cbor_grammar.specs.declared.head.ItemHead.TheVariants as head
use Rattle.cbor_grammar.specs.Item.{Item}
use Rattle.cbor_grammar.specs.Reading.{Read, read_head}
use Rattle.cbor_grammar.specs.WellFormed.{levels_left, FitsFloat}
use Rattle.cbor_grammar.specs.mirror.AtLevel.{read_at, read_behind}
use Rattle.cbor_json.specs.Kept.{IsKept, IsText, FirstLoss, is_text_head}
use Rattle.cbor_json.specs.declared.loss.Stop.{Stop}
use Rattle.cbor_json.specs.declared.loss.Stop.TheVariants as stop
use Rattle.cbor_json.specs.declared.error.LossKind.TheVariants as loss

-- the bits of a float fit its width
abbrev pub FitsHead : ItemHead → Type 0
FitsHead (head.Float bits w) = FitsFloat w bits
FitsHead h = Unit {0}

-- nothing is read
abbrev pub NoneRead : Read Item → Type 0
NoneRead read = (i : Item) (rest : List ℕ) → ¬ (read ≡ Ok (i, rest))

-- no item is read that is kept
abbrev pub NoneKept : Read Item → Type 0
NoneKept read = (i : Item) (rest : List ℕ) → read ≡ Ok (i, rest) → ¬ (IsKept i)

-- no text is read
abbrev pub NoText : Read Item → Type 0
NoText read = (i : Item) (rest : List ℕ) → read ≡ Ok (i, rest) → ¬ (IsText i)

-- at an item at this level
abbrev pub Stops : ℕ → List ℕ → Stop → Type 0
Stops level b (stop.Lost left kind) =
    FirstLoss (levels_left level) b left kind × NoneKept (read_at level b)
    × (left ≤ length b)
Stops level b stop.NoItem = NoneRead (read_at level b)

-- after the head of such an item
abbrev pub StopsAfter : ℕ → ItemHead → List ℕ → Stop → Type 0
StopsAfter level h inner (stop.Lost left kind) =
    ((b : List ℕ) → read_head b ≡ Ok (h, inner) → FirstLoss (levels_left level) b left kind)
    × NoneKept (read_behind level h inner) × (left ≤ length inner)
StopsAfter level h inner stop.NoItem = NoneRead (read_behind level h inner)

-- at a key that is no text
pub record IsNoText (level : ℕ) (b : List ℕ) : Type 0 where
  pub head : ItemHead
  pub rest : List ℕ
  pub read : read_head b ≡ Ok (head, rest)
  pub other : is_text_head head ≡ false
  pub none : NoText (read_at level b)

abbrev pub StopsAtKey : ℕ → List ℕ → Stop → Type 0
StopsAtKey level b (stop.Lost left kind) = (left ≡ length b) × (kind ≡ loss.Key) × IsNoText level b
StopsAtKey level b stop.NoItem = NoneRead (read_at level b)
