-- What stops the content of a chunk stops the chunk.
use Rattle.std.proofs.Common.{rules}
use Rattle.cbor_rules.specs.mirror.Opened.{content_stop}
use Rattle.cbor_rules.proofs.Stops.{content_stops}
use Rattle.cbor_rules.proofs.check.Check.read_chunk.Goals as goal

pub returns-in-Err-after_content-clause-gives : goal.returns-in-Err-after_content-clause-gives
returns-in-Err-after_content-clause-gives c =
    let total = c.args.self.now.len in
    let b = c.args.bytes.now in
    rw c.stop_at_content.ensures.is (content_stops c.args.self.now.rules total c.args.kind b c.in-Ok.read.1.now
    c.in-Some.count c.in-Some.width (content_stop total b c.in-Err-after_content.bad) (search rules) (search rules)
    (c.in-Err-after_content.ensures.gives c.in-Some.width b))
