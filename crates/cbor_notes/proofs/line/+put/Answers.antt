use Rattle.std.proofs.Common.{◌≡◌, ◌∙◌, ◌++◌, ap, arith, rules}
use Rattle.std.specs.String.{string_bytes}
use Rattle.std.proofs.lemmas.Grind.{common_steps}
use Rattle.cbor_notes.specs.Layout.{line_text, width_of}
use Rattle.cbor_notes.specs.LineTree.{first_line}
use Rattle.cbor_notes.specs.declared.line.Line.{the_lemmas}
use Rattle.cbor_notes.proofs.columns.Trees.{tree_is, fit_here, fit_others, text_more, width_more}
use Rattle.cbor_notes.proofs.line.+put.Goals as goal

pub Line::put_at-put_all_at-requires : goal.Line::put_at-put_all_at-requires
Line::put_at-put_all_at-requires t c =
    let wide = ap width_of (tree_is c.args.self.now c.args.depth) in (
      search (rules, the_lemmas),
      (
        (rw (tree_is c.args.self.now c.args.depth) at c.requires.fits).1,
        (omega (arith, wide), c.requires.most),
      ),
    )

pub Line::put_at-returns : goal.Line::put_at-returns
Line::put_at-returns t c =
    let first : string_bytes c.put_line.new.out ≡ string_bytes c.args.out.now
    ++ line_text c.args.width (first_line c.args.self.now c.args.depth) = grind (arith, common_steps) in
    rw (tree_is c.args.self.now c.args.depth) (grind (arith, common_steps))

pub put_all_at-put_at-requires : goal.put_all_at-put_at-requires
put_all_at-put_at-requires t c =
    let more = width_more c.deref-line-items.result.now c.lines.line-index c.args.depth c.line-item.result
    c.line-item.is c.lines-test.true in (
      search (rules, the_lemmas),
      (
        fit_here c.deref-line-items.result.now c.lines.line-index c.args.depth c.line-item.result c.line-item.is
            c.lines-test.true c.lines.invariant.0,
        (omega (arith, more), c.requires.most),
      ),
    )

pub put_all_at-lines-preserved : goal.put_all_at-lines-preserved
put_all_at-lines-preserved t c =
    let more = width_more c.deref-line-items.result.now c.lines.line-index c.args.depth c.line-item.result
    c.line-item.is c.lines-test.true in (
      fit_others c.deref-line-items.result.now c.lines.line-index c.args.depth c.line-item.result c.line-item.is
          c.lines-test.true c.lines.invariant.0,
      omega (arith, more),
      text_more c.deref-line-items.result.now c.lines.line-index c.args.depth c.line-item.result c.line-item.is
          c.lines-test.true
          (line_text c.args.width) (string_bytes c.lines.out) (string_bytes c.put_at.new.out) c.in_ok-put_at.ensures
          ∙ c.lines.invariant.2,
    )
