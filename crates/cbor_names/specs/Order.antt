-- The order of notes (`AreInOrder`): the item of each note begins behind the place where the item of the note before it
-- begins, so the places rise (`Rise`, `RiseTo`).
use Rattle.std.specs.Prelude.{ℕ, ◌+◌, ◌≤◌, List, [], ◌∷◌}
use Rattle.cbor_notes.specs.declared.note.Note.{Note}
use Rattle.cbor_names.specs.declared.note.Notes.{Notes}

-- How many bytes there are that the notes are of.
abbrev pub len_of : Notes → ℕ
len_of n = n.len

-- Each note is behind the one before it, the first at `from` or behind, and all are within this many bytes.
abbrev pub Rise : ℕ → ℕ → List Note → Type 0
Rise len from [] = Unit {0}
Rise len from (n ∷ ns) = (from ≤ n.start) × (n.start ≤ len) × Rise len (n.start + 1) ns

-- Notes in the order of the items that they are at, which are within this many bytes.
abbrev pub AreInOrder : ℕ → List Note → Type 0
AreInOrder len notes = Rise len 0 notes

-- Such notes, behind which one may come that is at `next` or behind.
abbrev pub RiseTo : ℕ → ℕ → List Note → ℕ → Type 0
RiseTo len from [] next = from ≤ next
RiseTo len from (n ∷ ns) next = (from ≤ n.start) × (n.start ≤ len) × RiseTo len (n.start + 1) ns next
