-- By the length, and then by the bytes.
use Rattle.cbor_json.proofs.walking.Ordered.{before_by_bytes}
use Rattle.cbor_json.proofs.names.is_before.Goals as goal

pub returns-then-first-second : goal.returns-then-first-second
returns-then-first-second c =
    before_by_bytes c.args.first.now c.args.second.now c.lt.result c.if-first-second.true c.lt.ensures
