-- A string of definite length is its content.
use Rattle.std.proofs.Common.{rules}
use Rattle.cbor_rules.specs.mirror.Opened.{content_stop}
use Rattle.cbor_rules.proofs.Stops.{string_stops}
use Rattle.cbor_rules.proofs.check.Check.after_atom.Goals as goal

pub returns-in-Err-clause-gives : goal.returns-in-Err-clause-gives
returns-in-Err-clause-gives c =
    let string = c.in-String-default-Number in
    let total = c.args.self.now.len in
    let b = c.args.bytes.now in
    rw c.stop_at_content.ensures.is (string_stops c.args.self.now.rules total b c.args.head string.kind string.count
    string.field-1-1 c.args.rest.now (content_stop total b c.in-Err.bad) (search rules)
    (c.in-Err.ensures.gives string.field-1-1 b))
