-- Before the first byte a whole item is due.
use Rattle.cbor_bytes.proofs.skipping.Progresses.{first_waits}
use Rattle.cbor_bytes.proofs.skip.progress.Progress.new.Goals as goal

pub returns : goal.returns
returns c = first_waits c.new.result.outer c.new.result.top c.empty.result c.new.ensures.outer c.new.ensures.top
    c.empty.ensures
