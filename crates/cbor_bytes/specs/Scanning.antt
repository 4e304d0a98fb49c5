-- `HasScanned`: a `Scanner` was fed these bytes, and its answer is right for them. The clauses of its calls keep this
-- relation; a caller need not look into it.
use Rattle.std.specs.Prelude.{◌≡◌, ℕ, ◌<◌, List, length, slice_index, Option}
use Rattle.cbor_bytes.specs.declared.skip.answer.Extent.{Extent}
use Rattle.cbor_bytes.specs.declared.skip.answer.Extent.TheVariants as extent
use Rattle.cbor_bytes.specs.declared.skip.progress.Progress.{Progress}
use Rattle.cbor_bytes.specs.declared.skip.scanner.Scanner.{Scanner}
use Rattle.cbor_bytes.specs.Extent.{IsExtent}
use Rattle.cbor_bytes.specs.mirror.Scanned.{WaitsAfter}

-- the answer for these bytes; where they are cut, their number and what is still to come
abbrev pub IsAnswer : ℕ → Option Progress → List ℕ → Extent → Type 0
IsAnswer count progress fed extent.Cut = (count ≡ length fed) × WaitsAfter progress fed
IsAnswer count progress fed answer = IsExtent fed answer

-- the scanner was fed these bytes
pub record HasScanned (scanner : Scanner) (fed : List ℕ) : Type 0 where
  pub bytes : (i : ℕ) → slice_index fed i < 256
  pub answer : IsAnswer scanner.fed scanner.progress fed scanner.answer
