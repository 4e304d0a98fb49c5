use Rattle.std.proofs.Common.{arith, refl}
use Rattle.cbor_page.proofs.Pieces.{all_written, writes_none, writes_then}
use Rattle.cbor_page.proofs.lines.push_lines.Goals as goal

pub lines-init : goal.lines-init
lines-init c = writes_none _ _ _ (omega arith, omega arith)

pub push_next-requires : goal.push_next-requires
push_next-requires c = c.lines.invariant.within

pub lines-preserved : goal.lines-preserved
lines-preserved c = writes_then _ _ _ _ _ _ _ c.lines.invariant c.in_ok-done.ensures

pub push_all-requires : goal.push_all-requires
push_all-requires c = c.lines.invariant.within

pub returns : goal.returns
returns c =
    let to_last = writes_then _ _ _ _ _ _ _ c.lines.invariant c.in_ok-last.ensures in
    all_written _ _ _ _ _ refl refl c.in_ok-push_rest.ensures.all
    (writes_then _ _ _ _ _ _ _ to_last c.in_ok-push_rest.ensures.written)
