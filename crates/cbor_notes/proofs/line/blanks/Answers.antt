use Rattle.std.proofs.Common.{◌∙◌}
use Rattle.cbor_notes.proofs.columns.Spaces.{blanks_boundary, blanks_cut}
use Rattle.cbor_notes.proofs.line.blanks.Goals as goal

pub range-requires-clause-end_boundary : goal.range-requires-clause-end_boundary
range-requires-clause-end_boundary c = blanks_boundary 64 c.args.count c.requires

pub returns-clause-value : goal.returns-clause-value
returns-clause-value c = c.range.ensures.value ∙ blanks_cut 64 c.args.count c.requires
