use Rattle.std.proofs.Common.{sym}
use Rattle.cbor_bytes.proofs.bytes.StrictHeads.{with_break}
use Rattle.cbor_bytes.proofs.strict.after_other.Goals as goal

pub returns-in-Some-clause-strict : goal.returns-in-Some-clause-strict
returns-in-Some-clause-strict c = λ s. with_break c.args.bytes.now c.in-Some.after.now (sym c.in-Some.ensures) s

pub returns-clause-strict : goal.returns-clause-strict
returns-clause-strict c = c.after_read_head.ensures.strict
    (λ long. absurd (let wrong = c.if-is_long_simple.ensures.1 long in cc))
