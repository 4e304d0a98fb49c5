-- The lines are those of the item, which is all of the bytes.
use Rattle.std.proofs.Common.{rules, ◌≡◌, ℕ, List, ◌++◌, length, refl, ap, ◌∙◌}
use Rattle.cbor_diag_c.proofs.Html.{lines_of}
use Rattle.cbor_diag_c.proofs.page.item_lines.Goals as goal

pub returns-in-Ok-clause-ok : goal.returns-in-Ok-clause-ok
returns-in-Ok-clause-ok c =
    let b = c.args.bytes.now in
    let one = c.in_default.ensures.none refl in
    let all : c.in-Ok.shown.used ≡ length b = search rules in
    let lines = c.in-Ok.ensures.lines in
    let new = lines.2 ∙ ap (λ (old : List ℕ). old ++ lines.1) c.new-lines.ensures.items in
    let show = c.new-show.ensures in
    lines_of c.new-show.result b one.0 c.in-Ok.shown.used c.push_items.new.out.items one.1 all show.whole show.form
    show.names show.bytes show.notes show.widths show.columns (lines.0, lines.1, new, lines.3, lines.4)
