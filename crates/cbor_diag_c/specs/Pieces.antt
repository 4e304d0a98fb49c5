-- `HasScanned`: the scanner of a C program (`CountedScanner`) was fed given bytes. `IfFed`: a fact of all bytes that it
-- was fed, with the next input after them.
use Rattle.std.specs.Prelude.{◌≡◌, ℕ, ◌+◌, ◌^◌, ◌<◌, List, ◌++◌, length}
use Rattle.cbor_bytes.specs.Scanning as library
use Rattle.cbor_diag_c.specs.declared.scanner.CountedScanner.{CountedScanner}

-- the scanner was fed these bytes
pub record HasScanned (counted : CountedScanner) (fed : List ℕ) : Type 0 where
  pub scanned : library.HasScanned counted.scanner fed
  pub count : counted.fed ≡ length fed
  pub few : length fed < 2 ^ 63

-- a fact of all bytes that it was fed, with the input after those before
abbrev pub IfFed : CountedScanner → List ℕ → (List ℕ → Type 0) → Type 0
IfFed old input Fact =
    (fed : List ℕ) → HasScanned old fed → length fed + length input < 2 ^ 63 → Fact (fed ++ input)
