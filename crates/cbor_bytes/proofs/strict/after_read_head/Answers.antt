use Rattle.std.proofs.Common.{◌∙◌, sym, arith}
use Rattle.cbor_bytes.proofs.bytes.StrictHeads.{with_head}
use Rattle.cbor_bytes.proofs.strict.after_read_head.Goals as goal

pub returns-clause-strict : goal.returns-clause-strict
returns-clause-strict c = λ plain s.
    let rest = c.in-Ok.rest.now in
    with_head c.args.bytes.now rest c.split_at.result.1.now c.in-Ok.head
    (λ i. omega (arith, c.type_inv.bytes i)) plain
    c.in-Ok.ensures.gives (c.split_at.ensures.back ∙ sym (c.content_len-count.ensures rest)) s
