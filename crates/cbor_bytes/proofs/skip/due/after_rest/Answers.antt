-- Where a content is cut, its rest and the chunks after it are due; where it has a fault, the string has it.
use Rattle.cbor_grammar.specs.declared.width.IntegerWidth.TheVariants.{Zero}
use Rattle.cbor_bytes.proofs.skipping.Scans.{content_longer, chunked_shows}
use Rattle.cbor_bytes.proofs.skip.due.after_rest.Goals as goal

pub unfinished-due-requires : goal.unfinished-due-requires
unfinished-due-requires c = content_longer c.args.kind c.args.left Zero c.args.bytes.now
    (rw c.in-Err-Cut.field-0-is at (c.in-Err-Cut.ensures.stops Zero))

pub returns-in-Err-Fault-clause-pauses : goal.returns-in-Err-Fault-clause-pauses
returns-in-Err-Fault-clause-pauses c = chunked_shows c.args.chunked c.args.kind c.args.left
    c.args.bytes.now c.in-Err-Fault.error c.in-Err-Fault.after
    (rw c.in-Err-Fault.field-0-is at (c.in-Err-Fault.ensures.stops Zero))
