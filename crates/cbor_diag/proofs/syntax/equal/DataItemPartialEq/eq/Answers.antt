-- The test of all fields is the one of the definition.
use Rattle.std.proofs.lemmas.Bool.Decides.{same_from_decides}
use Rattle.cbor_diag.specs.View.{view}
use Rattle.cbor_grammar.specs.mirror.SameDecides.{same_decides}
use Rattle.cbor_diag.proofs.syntax.equal.DataItemPartialEq.eq.Goals as goal

pub returns-clause-value : goal.returns-clause-value
returns-clause-value c =
    let decides = same_decides (view c.args.self.now) (view c.args.other.now) in
    same_from_decides c.items_equal.result _ c.items_equal.ensures decides
