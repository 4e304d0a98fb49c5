use Rattle.std.proofs.Common.{arith}
use Rattle.cbor_edit.proofs.Heads.{string_at}
use Rattle.cbor_edit.proofs.replace.string_at.Goals as goal

pub returns : goal.returns
returns c =
    string_at c.args.bytes.now c.args.start c.in_ok-head.inner c.in_ok-head.head c.in-String.kind c.in-String.count
    c.in-Number.len c.in-Number.width (λ i. omega (arith, c.type_inv.bytes i)) c.in_ok-head.ensures.head c.in-String.is
    c.in-Bytes.is c.in-Number.is
