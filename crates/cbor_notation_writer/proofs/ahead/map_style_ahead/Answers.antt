-- The style that bytes give a map is the one that its pairs give it.
use Rattle.cbor_grammar.specs.Estimate.{estimated_pairs}
use Rattle.cbor_grammar.specs.Item as spec
use Rattle.cbor_notation_writer.proofs.ahead.map_style_ahead.Goals as goal

pub returns-in-Pretty-clause-style : goal.returns-in-Pretty-clause-style
returns-in-Pretty-clause-style c levels ps w rest e =
    rw c.in-Pretty.is (c.style_of.ensures.style _ (estimated_pairs ps) rest c.budget_of.ensures
    (c.pairs_ahead.ensures.leaves levels (spec.map ps w) rest e))
