-- For all crates: all numbers of a list are bytes, below 256.
use Rattle.std.specs.Prelude.{List, ℕ}
use Rattle.std.specs.Int.Digits.{AllBelowBase}

-- each number of the list is below 256
abbrev pub AreBytes : List ℕ → Type 0
AreBytes bytes = AllBelowBase 256 bytes
