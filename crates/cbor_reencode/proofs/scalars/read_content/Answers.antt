-- The content and what follows it are all of the bytes.
use Rattle.std.proofs.Common.{rules}
use Rattle.cbor_reencode.proofs.Atoms.{content_at}
use Rattle.cbor_reencode.proofs.scalars.read_content.Goals as goal

pub returns-then-may_hold : goal.returns-then-may_hold
returns-then-may_hold c =
    let s = c.split_at.ensures in
    content_at c.args.kind c.args.count c.args.bytes.now c.split_at.result.0.now c.split_at.result.1.now s.front s.back
    s.front_len (search rules)
