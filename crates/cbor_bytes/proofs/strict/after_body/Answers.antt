use Rattle.std.proofs.Common.{arith}
use Rattle.cbor_bytes.proofs.bytes.StrictHeads.{with_body}
use Rattle.cbor_bytes.proofs.strict.after_body.Goals as goal

pub returns-clause-strict : goal.returns-clause-strict
returns-clause-strict c = λ s.
    with_body c.args.first c.in_ok-count.count c.args.bytes.now c.split_at.result.1.now c.ranges.first.fits
    (λ i. omega (arith, c.type_inv.bytes i)) c.in_ok-count.ensures c.if-count-bytes.false c.split_at.ensures.back s
