-- Notes in order that end before `next` (`RiseTo`) are in order (`Rise`). If a note at `next` or behind is appended,
-- they end before the place after that note.
use Rattle.std.proofs.Common.{ℕ, ◌+◌, ◌≤◌, List, [], ◌∷◌, ◌++◌, arith}
use Rattle.cbor_notes.specs.declared.note.Note.{Note}
use Rattle.cbor_names.specs.Order.{Rise, RiseTo}

pub rise : (len from : ℕ) (ns : List Note) (next : ℕ) → RiseTo len from ns next → Rise len from ns
rise len from [] next h = tt
rise len from (n ∷ ns) next h = (h.0, h.1, rise len (n.start + 1) ns next h.2)

pub one_more : (len from : ℕ) (ns : List Note) (next : ℕ) (n : Note) → RiseTo len from ns next → next ≤ n.start
    → n.start ≤ len → RiseTo len from (ns ++ n ∷ []) (n.start + 1)
one_more len from [] next n h behind within = (omega (arith, h, behind), within, omega arith)
one_more len from (m ∷ ms) next n h behind within = (h.0, h.1, one_more len (m.start + 1) ms next n h.2 behind within)
