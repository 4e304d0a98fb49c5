use Rattle.std.proofs.Common.{arith}
use Rattle.cbor_edit.proofs.Heads.{array_at, map_at}
use Rattle.cbor_edit.proofs.container.opened_at.Goals as goal

pub returns-in-Array-clause-head : goal.returns-in-Array-clause-head
returns-in-Array-clause-head c =
    array_at c.args.bytes.now c.args.start c.in_ok-head.inner c.in_ok-head.head c.in-Array.count
    (λ i. omega (arith, c.type_inv.bytes i)) c.in_ok-head.ensures.head c.in-Array.is

pub returns-in-Map-clause-head : goal.returns-in-Map-clause-head
returns-in-Map-clause-head c =
    map_at c.args.bytes.now c.args.start c.in_ok-head.inner c.in_ok-head.head c.in-Map.count
    (λ i. omega (arith, c.type_inv.bytes i)) c.in_ok-head.ensures.head c.in-Map.is
