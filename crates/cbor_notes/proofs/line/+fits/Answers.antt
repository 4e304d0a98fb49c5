use Rattle.std.proofs.Common.{List, refl, sym, subst}
use Rattle.std.specs.List.{AllByRecursion}
use Rattle.cbor_notes.specs.LineTree.{IsFit, forest_lines}
use Rattle.cbor_notes.specs.declared.line.Line.{Line}
use Rattle.cbor_notes.proofs.columns.Trees.{tree_is, fit_here, fit_more}
use Rattle.cbor_notes.proofs.line.+fits.Goals as goal

pub Line::fits_at-returns-then-is_fit : goal.Line::fits_at-returns-then-is_fit
Line::fits_at-returns-then-is_fit t c =
    rw (tree_is c.args.self.now c.args.depth)
    (λ fit. (c.if-is_fit.ensures.0 refl, c.all_fit_at.ensures.0 fit), λ fit. c.all_fit_at.ensures.1 fit.1)

pub all_fit_at-returns-then-not-fits_at : goal.all_fit_at-returns-then-not-fits_at
all_fit_at-returns-then-not-fits_at t c = (
  λ never. cc never,
  λ whole.
      let seen = subst (λ (trees : List Line). AllByRecursion IsFit (forest_lines trees c.args.depth))
      (sym c.deref-line-items.ensures.value) whole in
      c.if-not-fits_at.ensures.1
      (fit_here c.deref-line-items.result.now c.lines.line-index c.args.depth c.line-item.result c.line-item.is
      c.lines-test.true (c.lines.invariant.1 seen)),
)

pub all_fit_at-lines-preserved : goal.all_fit_at-lines-preserved
all_fit_at-lines-preserved t c =
    fit_more c.deref-line-items.result.now c.lines.line-index c.args.depth c.line-item.result c.line-item.is
    c.lines-test.true
    _ c.lines.invariant (c.if-not-fits_at.ensures.0 refl)
