-- The first loss, or none where all is kept.
use Rattle.std.proofs.Common.{subst, arith}
use Rattle.cbor_grammar.specs.mirror.AtLevel.{read_at}
use Rattle.cbor_json.specs.mirror.Losing.{Stops}
use Rattle.cbor_json.proofs.losing.Kept.{same_kept}
use Rattle.cbor_json.proofs.loss.first_loss.Goals as goal

pub returns-in-Ok-clause-kept : goal.returns-in-Ok-clause-kept
returns-in-Ok-clause-kept c =
    λ i rest e. same_kept (read_at 1 c.args.bytes.now) _ c.in-Ok.ensures.kept i rest e

pub returns-in-NoItem-clause-kept : goal.returns-in-NoItem-clause-kept
returns-in-NoItem-clause-kept c =
    let none = subst (Stops 1 c.args.bytes.now) c.in-NoItem.is c.in-Err.ensures.stops in
    λ i rest e. absurd (none i rest e)

pub returns-in-Lost-clause-loss : goal.returns-in-Lost-clause-loss
returns-in-Lost-clause-loss c =
    let s = subst (Stops 1 c.args.bytes.now) c.in-Lost.is c.in-Err.ensures.stops in
    (c.in-Lost.left, s.0, omega (arith, s.2))

pub returns-in-Lost-clause-lost : goal.returns-in-Lost-clause-lost
returns-in-Lost-clause-lost c =
    let s = subst (Stops 1 c.args.bytes.now) c.in-Lost.is c.in-Err.ensures.stops in
    λ i rest e. s.1 i rest e
