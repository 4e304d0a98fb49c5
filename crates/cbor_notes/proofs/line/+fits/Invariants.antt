use Rattle.std.proofs.Common.{drop, ◌↔◌}
use Rattle.std.specs.List.{AllByRecursion}
use Rattle.cbor_notes.specs.LineTree.{IsFit, forest_lines}
use Rattle.cbor_notes.proofs.line.+fits.Given as goal

-- all fit exactly where the lines that are left do
abbrev pub invariant-all_fit_at-lines : goal.invariant-all_fit_at-lines
invariant-all_fit_at-lines l =
    AllByRecursion IsFit (forest_lines (drop l.line-index l.line-items) l.depth) ↔ AllByRecursion IsFit
    (forest_lines l.line-items l.depth)
