-- The style that bytes give an array is the one that its items give it.
use Rattle.cbor_grammar.specs.Estimate.{estimated_items}
use Rattle.cbor_grammar.specs.Item.{array}
use Rattle.cbor_notation_writer.proofs.ahead.array_style_ahead.Goals as goal

pub returns-in-Pretty-clause-style : goal.returns-in-Pretty-clause-style
returns-in-Pretty-clause-style c levels is w rest e =
    rw c.in-Pretty.is (c.style_of.ensures.style _ (estimated_items is) rest c.budget_of.ensures
    (c.items_ahead.ensures.leaves levels (array is w) rest e))
