use Rattle.cbor_page.proofs.Pieces.{writes_then}
use Rattle.cbor_page.proofs.source.Source.push_rest.Goals as goal

pub returns-clause-written : goal.returns-clause-written
returns-clause-written c =
    writes_then c.args.self.now _ _ _ _ _ _ c.in_ok-text.ensures.written c.in_ok-after.ensures.written
