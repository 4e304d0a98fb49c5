-- An item takes bytes.
use Rattle.cbor_grammar.specs.WellFormed.{levels_left}
use Rattle.cbor_grammar.proofs.bytes.Shorter.{item_shorter}
use Rattle.cbor_names.proofs.pairs.after_item.Goals as goal

pub returns : goal.returns
returns c =
    item_shorter (levels_left 1) c.args.bytes.now c.in-Some.ensures.some.0 c.in-Some.rest.now c.in-Some.ensures.some.1
