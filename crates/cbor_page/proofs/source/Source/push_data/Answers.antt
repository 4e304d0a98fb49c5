use Rattle.cbor_page.proofs.Pieces.{writes_other}
use Rattle.cbor_page.proofs.source.Source.push_data.Goals as goal

pub returns : goal.returns
returns c =
    writes_other c.args.self.now c.args.words.now c.args.done _ _ c.requires c.in_ok-push_escaped.ensures
