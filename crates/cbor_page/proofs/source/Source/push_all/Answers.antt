use Rattle.cbor_page.proofs.Pieces.{writes_none, writes_then}
use Rattle.cbor_page.proofs.source.Source.push_all.Goals as goal

pub events-init : goal.events-init
events-init c = writes_none c.args.self.now c.args.done _ c.requires

pub push-requires : goal.push-requires
push-requires c = c.events.invariant.within

pub events-preserved : goal.events-preserved
events-preserved c = writes_then c.args.self.now _ _ _ _ _ _ c.events.invariant c.in_ok-now.ensures

pub returns : goal.returns
returns c = c.events.invariant
