-- The place of a fault (`IsFaultPlace`): how many bytes are before it. `ShowsFirst`: a number of first bytes have an
-- error, and any fewer are truncated.
use Rattle.std.specs.Prelude.{◌≡◌, ℕ, ◌+◌, ◌<◌, List, length, take}
use Rattle.cbor_grammar.specs.declared.error.Error.{Error}
use Rattle.cbor_grammar.specs.declared.error.Error.TheVariants as refusal
use Rattle.cbor_grammar.specs.Item.{Item}
use Rattle.cbor_grammar.specs.Facts.{BeginsWithItem, IsCut}
use Rattle.cbor_bytes.specs.Extent.{FaultEnds}

-- The first `end` bytes have the error, and any fewer are truncated.
abbrev pub ShowsFirst : List ℕ → Error → ℕ → Type 0
ShowsFirst b e end = FaultEnds b e end × ((n : ℕ) → n < end → IsCut (take n b))

-- Truncated bytes end at the place. Bytes that remain begin at the place, and an item is before them. A text that is
-- not UTF-8 ends after the place. Any other error shows with the byte at the place, and with no fewer bytes.
abbrev pub IsFaultPlace : List ℕ → Error → ℕ → Type 0
IsFaultPlace b refusal.CutShort place = place ≡ length b
IsFaultPlace b refusal.Remaining place = (i : Item) × BeginsWithItem b i place × (place < length b)
IsFaultPlace b refusal.Utf8 place = (end : ℕ) × ShowsFirst b refusal.Utf8 end × (place < end)
IsFaultPlace b e place = ShowsFirst b e (place + 1)
