use Rattle.std.proofs.Common.{◌≡◌, ◌+◌, ◌∙◌, ap, sym, subst, arith, string_bytes}
use Rattle.std.proofs.lemmas.Grind.{common_steps}
use Rattle.cbor_notes.specs.Layout.{layout, width_of}
use Rattle.cbor_notes.specs.Columns.{IsColumn}
use Rattle.cbor_tokens.specs.Uncommented.{uncommented}
use Rattle.cbor_notes.specs.LineTree.{tree_lines}
use Rattle.cbor_notes.proofs.columns.OneColumn.{one_column, digits_left}
use Rattle.cbor_notes.proofs.columns.Trees.{fit_width}
use Rattle.cbor_notes.proofs.line.merge.Goals as goal

pub put_at-requires-clause-most : goal.put_at-requires-clause-most
put_at-requires-clause-most c = omega (arith, fit_width (tree_lines c.args.line.now 0) c.requires)

pub returns-clause-one_column : goal.returns-clause-one_column
returns-clause-one_column c = λ plain.
    let lines = tree_lines c.args.line.now 0 in
    let width = width_of lines in
    let text : string_bytes c.put_at.new.out ≡ layout lines = grind (arith, common_steps) in
    subst (IsColumn (width + 1)) (sym text) (one_column width lines plain (omega arith))

pub returns-clause-digits : goal.returns-clause-digits
returns-clause-digits c = λ plain.
    let lines = tree_lines c.args.line.now 0 in
    let text : string_bytes c.put_at.new.out ≡ layout lines = grind (arith, common_steps) in
    ap uncommented text ∙ digits_left (width_of lines) lines plain
