use Rattle.std.proofs.Common.{◌+◌}
use Rattle.cbor_grammar.specs.mirror.Lengths.{left_of}
use Rattle.cbor_dump.proofs.dump.NotedValues.{headless, next_seen, not_ended}
use Rattle.cbor_dump.proofs.notes.value.next_member.Goals as goal

pub returns-in_default : goal.returns-in_default
returns-in_default c = λ levels is are.
    headless levels (left_of c.args.count c.args.held) (left_of c.args.count (c.args.held + 1)) c.args.bytes.now
    c.args.bytes.now is _ c.in_default.ensures.gives are

pub returns : goal.returns
returns c = λ levels is are.
    next_seen c.behind.result.0 levels c.args.count c.args.held c.args.bytes.now c.in-Ok.rest.now c.behind.result.1.now
    c.in-Ok.head is
    (not_ended (λ x. x.now) c.after_end.result _ (c.if-is_some.ensures) c.after_end.ensures) c.in-Ok.ensures.gives
    c.behind.ensures are
