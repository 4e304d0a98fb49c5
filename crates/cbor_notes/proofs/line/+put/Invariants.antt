use Rattle.std.proofs.Common.{◌≡◌, ◌≤◌, ◌++◌, drop, string_bytes}
use Rattle.std.specs.List.{AllByRecursion, flat_map}
use Rattle.cbor_notes.specs.Layout.{line_text, width_of}
use Rattle.cbor_notes.specs.LineTree.{IsFit, forest_lines}
use Rattle.cbor_notes.proofs.line.+put.Given as goal

abbrev pub invariant-put_all_at-lines : goal.invariant-put_all_at-lines
invariant-put_all_at-lines l =
    let rest = forest_lines (drop l.line-index l.line-items) l.depth in
    AllByRecursion IsFit rest × (width_of rest ≤ l.width)
    × (string_bytes l.out ++ flat_map (line_text l.width) rest ≡ string_bytes l.fn.out
    ++ flat_map (line_text l.width) (forest_lines l.line-items l.depth))
