use Rattle.std.proofs.Common.{arith}
use Rattle.cbor_page.proofs.Pieces.{shows_none, shows_then}
use Rattle.cbor_page.proofs.shown.push_whole.Goals as goal

pub fronts-init : goal.fronts-init
fronts-init c = shows_none c.args.piece.bytes.now 0 _ (omega arith)

pub push_next-requires : goal.push_next-requires
push_next-requires c = c.fronts.invariant.within

pub fronts-preserved : goal.fronts-preserved
fronts-preserved c = shows_then c.args.piece.bytes.now _ _ _ _ _ _ c.fronts.invariant c.in_ok-front.ensures

pub returns : goal.returns
returns c = c.fronts.invariant
