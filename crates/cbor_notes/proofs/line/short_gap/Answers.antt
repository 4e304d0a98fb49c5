use Rattle.std.proofs.Common.{◌∙◌, arith}
use Rattle.cbor_notes.proofs.columns.Spaces.{gap_boundary, gap_cut}
use Rattle.cbor_notes.proofs.line.short_gap.Goals as goal

pub range-requires-clause-start_boundary : goal.range-requires-clause-start_boundary
range-requires-clause-start_boundary c = λ _. gap_boundary _ (omega arith)

pub range-requires-clause-end_boundary : goal.range-requires-clause-end_boundary
range-requires-clause-end_boundary c = gap_boundary _ (omega arith)

pub returns-clause-value : goal.returns-clause-value
returns-clause-value c =
    c.range.ensures.value ∙ gap_cut c.args.before c.args.after c.requires.before c.requires.after
