-- The bytes after a break or a head.
use Rattle.cbor_inside.proofs.Heads.{head_none, head_break, read_on}
use Rattle.cbor_inside.proofs.strict.after_head.Goals as goal

pub returns-in-empty-clause-next : goal.returns-in-empty-clause-next
returns-in-empty-clause-next c = head_none c.args.bytes.now c.in-empty.len_below

pub returns-then-first-clause-next : goal.returns-then-first-clause-next
returns-then-first-clause-next c = head_break c.args.bytes.now c.in-len1-up.len_at_least c.if-first.true

pub returns-else-first-clause-next : goal.returns-else-first-clause-next
returns-else-first-clause-next c =
    read_on c.after_read.result (λ after. after.now) c.args.bytes.now c.in-len1-up.len_at_least c.if-first.false
    c.after_read.ensures.next
