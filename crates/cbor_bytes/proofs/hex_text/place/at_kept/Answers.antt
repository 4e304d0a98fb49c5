-- The bytes that are passed keep nothing, and the first after them is kept.
use Rattle.cbor_grammar.proofs.hex.Kept.{keeps_here, still_none}
use Rattle.cbor_bytes.proofs.hex_text.place.at_kept.Goals as goal

pub dropped-init : goal.dropped-init
dropped-init c = keeps_here c.args.text.now

pub dropped-preserved : goal.dropped-preserved
dropped-preserved c = still_none c.args.text.now c.dropped.rest.now c.in-Some.after.now c.dropped.invariant
    c.in-Some.ensures.over
