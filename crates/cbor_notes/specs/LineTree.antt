-- `tree_lines`: the lines of a dump that a `Line` stands for: the line itself, and then the lines below it, one level
-- deeper. `Fits`: a tree can be laid out: its levels and the hex digits of each line are within the limits.
use Rattle.std.specs.Prelude.{ℕ, ◌+◌, ◌<◌, ◌≤◌, List, ◌∷◌, length, string_bytes, flat_map}
use Rattle.std.specs.List.{AllByRecursion}
use Rattle.std.specs.Str.{IsAscii}
use Rattle.cbor_notes.specs.declared.line.Line.{Line, fold-Line, out-Line}
use Rattle.cbor_notes.specs.declared.line.Line.TheOpen.{Line-F}
use Rattle.cbor_notes.specs.Layout.{DumpLine}

-- a line from a depth on, and then its sublines in order, each with its own, one deeper
abbrev pub tree_step : Line-F (ℕ → List DumpLine) → ℕ → List DumpLine
tree_step line depth =
    record { depth = depth; hex = string_bytes line.hex; comment = string_bytes line.comment }
    ∷ flat_map (λ subline. subline (depth + 1)) line.sublines.items

abbrev pub tree_lines : Line → ℕ → List DumpLine
tree_lines = fold-Line (ℕ → List DumpLine) tree_step

abbrev pub first_line : Line → ℕ → DumpLine
first_line line depth = record {
  depth = depth;
  hex = string_bytes (out-Line line).hex;
  comment =
      string_bytes (out-Line line).comment;
}

-- the lines of several trees in order
abbrev pub forest_lines : List Line → ℕ → List DumpLine
forest_lines trees depth = flat_map (λ tree. tree_lines tree depth) trees

-- how deep the lines of a tree may be, and how long the hex of a line may be
abbrev pub most_levels : ℕ
most_levels = 140

abbrev pub most_hex : ℕ
most_hex = 64

pub record IsFit (line : DumpLine) : Type 0 where
  pub level : line.depth < most_levels
  pub short : length line.hex ≤ most_hex
  pub ascii : IsAscii line.hex

-- all lines of a tree are so, its first one at depth 0
abbrev pub Fits : Line → Type 0
Fits line = AllByRecursion IsFit (tree_lines line 0)
