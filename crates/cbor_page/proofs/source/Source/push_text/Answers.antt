use Rattle.std.proofs.Common.{arith, refl}
use Rattle.cbor_page.proofs.Pieces.{writes_text}
use Rattle.cbor_page.proofs.source.Source.push_text.Goals as goal

pub returns-clause-written : goal.returns-clause-written
returns-clause-written c =
    writes_text c.args.self.now c.args.done _ _ _
    (omega (arith, c.max-end.ensures, c.min.ensures, c.requires.0), c.requires.1)
    (omega (arith, c.max-end.ensures)) refl c.in_ok-push_escaped.ensures
