-- The results of the C calls `cbor_diag_extent` and `cbor_diag_scanner_feed`: the length of the item at the front
-- (`IsItemOf`), or the error of truncated or malformed bytes (`IsCutOrFault`), and the number of bytes that decide
-- this. `IsReturned`: the result for an `Extent`.
use Rattle.std.specs.Prelude.{◌≡◌, ◌⊎◌, ℕ, ℤ, List, length}
use Rattle.cbor_grammar.specs.declared.error.Error.{Error}
use Rattle.cbor_grammar.specs.declared.error.Error.TheVariants.{CutShort}
use Rattle.cbor_bytes.specs.declared.skip.answer.Extent.{Extent}
use Rattle.cbor_bytes.specs.declared.skip.answer.Extent.TheVariants.{Item, Cut, Fault}
use Rattle.cbor_bytes.specs.Extent.{IsExtent}
use Rattle.cbor_grammar.specs.Refusals.{number_of}
use Rattle.cbor_diag_c.specs.Answers.{IsLength, IsMinus}

-- an item of this length, which ends here
abbrev pub IsItemOf : List ℕ → ℕ → ℕ → Type 0
IsItemOf input n end = IsExtent input (Item n) × (end ≡ n)

-- all bytes are cut, or the first ones up to here have the error with this number
abbrev pub IsCutOrFault : List ℕ → ℕ → ℕ → Type 0
IsCutOrFault input n end =
    ((n ≡ number_of CutShort) × IsExtent input Cut × (end ≡ length input))
    ⊎ ((e : Error) × (n ≡ number_of e) × IsExtent input (Fault e end))

-- what is returned for a beginning of this many bytes
abbrev pub IsReturned : Extent → ℕ → ℤ → ℕ → Type 0
IsReturned (Item n) len result end = IsLength n result × (end ≡ n)
IsReturned Cut len result end = IsMinus (number_of CutShort) result × (end ≡ len)
IsReturned (Fault e shown) len result end = IsMinus (number_of e) result × (end ≡ shown)
