use Rattle.std.proofs.Common.{◌≡◌, drop, max}
use Rattle.std.specs.List.{AllByRecursion}
use Rattle.cbor_notes.specs.Layout.{width_of}
use Rattle.cbor_notes.specs.LineTree.{IsFit, forest_lines}
use Rattle.cbor_notes.proofs.line.+width.Given as goal

abbrev pub invariant-greatest_width_at-lines : goal.invariant-greatest_width_at-lines
invariant-greatest_width_at-lines l =
    let rest = forest_lines (drop l.line-index l.line-items) l.depth in
    AllByRecursion IsFit rest × (max l.width (width_of rest) ≡ width_of (forest_lines l.line-items l.depth))
