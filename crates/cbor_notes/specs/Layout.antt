-- How the lines of a dump are laid out in columns: hex digits on the left, comments on the right.
use Rattle.std.specs.Prelude.{ℕ, ◌+◌, ◌-◌, ◌*◌, ◌==◌, List, [], ◌∷◌, ◌++◌, length, max, replicate, codes, flat_map}
use Rattle.std.specs.Prelude.{if◌then◌else◌}
use Rattle.cbor_tokens.specs.Ascii.{space}

-- a line: its depth, its hex digits, if any, and its comment
pub record DumpLine : Type 0 where
  pub depth : ℕ
  pub hex : List ℕ
  pub comment : List ℕ

abbrev pub blanks : ℕ → List ℕ
blanks n = replicate n space

-- where the digits of a line end, and 0 of a line without digits
abbrev pub reach : DumpLine → ℕ
reach line = if length line.hex == 0 then 0 else 3 * line.depth + length line.hex

-- the width of the left column: the farthest that any digits reach
abbrev pub width_of : List DumpLine → ℕ
width_of [] = 0
width_of (line ∷ lines) = max (reach line) (width_of lines)

-- the left column of a line: three blanks for each depth and the digits, or nothing, and blanks up to the width
abbrev pub left_column : ℕ → DumpLine → List ℕ
left_column width line =
    if length line.hex == 0 then blanks width
    else blanks (3 * line.depth) ++ line.hex ++ blanks (width - reach line)

-- what stands between the digits and the comment of a line: ` # ` between blanks
abbrev pub gap : ℕ → ℕ → List ℕ
gap before after = blanks before ++ codes " # " ++ blanks after

-- a line without its line feed: its left column, ` # `, two blanks for each depth, and the comment
abbrev pub row : ℕ → DumpLine → List ℕ
row width line = left_column width line ++ codes " # " ++ blanks (2 * line.depth) ++ line.comment

-- the same with its line feed
abbrev pub line_text : ℕ → DumpLine → List ℕ
line_text width line = row width line ++ codes "\n"

-- all lines in order, with their comments in one column
abbrev pub layout : List DumpLine → List ℕ
layout lines = flat_map (line_text (width_of lines)) lines
