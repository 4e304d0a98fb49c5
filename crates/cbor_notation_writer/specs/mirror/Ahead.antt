-- For `ahead.rt`: a look at the next bytes takes the length of a part from a budget of characters. It leaves some of
-- the budget, and the bytes after the part, or nothing (`Leaves`). `Estimates`: that length is the estimated length of
-- the item that reading gives.
use Rattle.std.specs.Prelude.{◌≡◌, ℕ, ◌+◌, ◌<◌, ◌≤◌, List, Option, Some, None, Ok}
use Rattle.cbor_notation_writer.specs.declared.ahead.Ahead.{Ahead}
use Rattle.cbor_grammar.specs.Estimate.{estimated_length}
use Rattle.cbor_grammar.specs.Item.{Item}
use Rattle.cbor_grammar.specs.Reading.{Read, read_item}

-- What is that long takes this much of the budget, and these bytes follow it; or it takes all.
abbrev pub Leaves : Option Ahead → ℕ → ℕ → List ℕ → Type 0
Leaves (Some ahead) budget size rest = (ahead.left + size ≡ budget) × (0 < ahead.left) × (ahead.rest.now ≡ rest)
Leaves None budget size rest = budget ≤ size

-- The item that reading gives takes this much, whatever the number of levels that are left for it.
abbrev pub Estimates : Option Ahead → ℕ → (ℕ → Read Item) → Type 0
Estimates found budget read = (levels : ℕ) (i : Item) (rest : List ℕ) → read levels ≡ Ok (i, rest)
    → Leaves found budget (estimated_length i) rest

-- the item at the front
abbrev pub front_read : List ℕ → ℕ → Read Item
front_read b levels = read_item levels b
