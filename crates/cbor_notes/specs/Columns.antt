-- The words of the laws on columns. A plain line has no `#` or line feed in its digits and no line feed in its comment
-- (`IsPlain`). The comments of a text begin in one column (`IsColumn`). `digits_of` are the digits of lines, without
-- spaces.
use Rattle.std.specs.Prelude.{◌≡◌, ℕ, ◌==◌, List, flat_map, Some}
use Rattle.std.specs.List.{AllByRecursion, position}
use Rattle.std.specs.Str.Lines.{lines}
use Rattle.cbor_tokens.specs.Ascii.{line_feed, hash}
use Rattle.cbor_notes.specs.Layout.{DumpLine}
use Rattle.cbor_tokens.specs.Uncommented.{Lacks, unspaced}

-- the digits have no `#` and no line feed, and the comment has no line feed
pub record IsPlain (line : DumpLine) : Type 0 where
  pub no_hash : Lacks hash line.hex
  pub no_feed : Lacks line_feed line.hex
  pub one_line : Lacks line_feed line.comment

-- of each line of a text, the first `#` is at that place, counted from 0
abbrev pub IsColumn : ℕ → List ℕ → Type 0
IsColumn place text = AllByRecursion (λ line. position (λ b. b == hash) line ≡ Some place) (lines text)

-- the digits of all lines, without spaces
abbrev pub digits_of : List DumpLine → List ℕ
digits_of lines = flat_map (λ line. unspaced line.hex) lines
