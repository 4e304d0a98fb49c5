-- `IsUtf8Fault`: the place where bytes stop being UTF-8 (RFC 3629). This is the first byte that cannot follow the bytes
-- before it, or the end of the bytes if the last character is truncated. `BeginsText`: some UTF-8 begins with these
-- bytes.
use Rattle.std.specs.Prelude.{◌≡◌, ℕ, ◌+◌, ◌<◌, ◌≤◌, List, ◌++◌, length, take, IsUtf8}

-- some UTF-8 begins with these bytes
abbrev pub BeginsText : List ℕ → Type 0
BeginsText b = (more : List ℕ) × IsUtf8 (b ++ more)

-- The place of the first byte with which no UTF-8 goes on; or the end of the bytes, where the last character is cut.
pub record IsUtf8Fault (b : List ℕ) (place : ℕ) : Type 0 where
  pub within : place ≤ length b
  pub before : BeginsText (take place b)
  pub at : place < length b → ¬ (BeginsText (take (place + 1) b))
  pub cut : place ≡ length b → ¬ (IsUtf8 b)
