-- `Lacks`: a text does not have a byte. A text is the list of its bytes.
use Rattle.std.specs.Prelude.{◌≢◌, ℕ, ◌<◌, List, length, slice_index}

-- a text without that byte
abbrev pub Lacks : ℕ → List ℕ → Type 0
Lacks byte text = (k : ℕ) → k < length text → slice_index text k ≢ byte
