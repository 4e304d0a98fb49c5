-- The style that bytes give a string in chunks is the one that its chunks give it.
use Rattle.cbor_grammar.specs.Estimate.{estimated_chunks}
use Rattle.cbor_grammar.specs.Item.{atom, chunked_string}
use Rattle.cbor_notation_writer.proofs.ahead.chunks_style_ahead.Goals as goal

pub returns-in-Pretty-clause-style : goal.returns-in-Pretty-clause-style
returns-in-Pretty-clause-style c levels cs rest e =
    rw c.in-Pretty.is (c.style_of.ensures.style _ (estimated_chunks c.args.kind cs) rest c.budget_of.ensures
    (c.chunks_ahead.ensures.leaves levels (atom (chunked_string c.args.kind cs)) rest e))
