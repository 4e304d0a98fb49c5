use Rattle.std.proofs.Common.{arith, rules, ap}
use Rattle.cbor_notes.specs.Layout.{width_of}
use Rattle.cbor_notes.specs.declared.line.Line.{the_lemmas}
use Rattle.cbor_notes.proofs.columns.Trees.{tree_is, fit_here, fit_others, width_more}
use Rattle.cbor_notes.proofs.line.+width.Goals as goal

pub Line::width_at-reach-requires : goal.Line::width_at-reach-requires
Line::width_at-reach-requires t c = (rw (tree_is c.args.self.now c.args.depth) at c.requires).0

pub Line::width_at-greatest_width_at-requires : goal.Line::width_at-greatest_width_at-requires
Line::width_at-greatest_width_at-requires t c =
    (search (rules, the_lemmas), (rw (tree_is c.args.self.now c.args.depth) at c.requires).1)

pub Line::width_at-returns : goal.Line::width_at-returns
Line::width_at-returns t c = let is = ap width_of (tree_is c.args.self.now c.args.depth) in omega (arith, is)

pub greatest_width_at-width_at-requires : goal.greatest_width_at-width_at-requires
greatest_width_at-width_at-requires t c = (
  search (rules, the_lemmas),
  fit_here c.deref-line-items.result.now c.lines.line-index c.args.depth c.line-item.result c.line-item.is
      c.lines-test.true c.lines.invariant.0,
)

pub greatest_width_at-lines-preserved : goal.greatest_width_at-lines-preserved
greatest_width_at-lines-preserved t c =
    let more = width_more c.deref-line-items.result.now c.lines.line-index c.args.depth c.line-item.result
    c.line-item.is c.lines-test.true in (
      fit_others c.deref-line-items.result.now c.lines.line-index c.args.depth c.line-item.result c.line-item.is
          c.lines-test.true c.lines.invariant.0,
      omega (arith, more),
    )
