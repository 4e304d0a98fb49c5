-- No small digit follows the `_`.
use Rattle.std.proofs.Common.{sym, arith}
use Rattle.cbor_tokens.proofs.tokens.NumberRuns.{indicator_of-none}
use Rattle.cbor_tokens.proofs.tokens.TextPlaces.{front_byte}
use Rattle.cbor_tokens.proofs.token.number.read_indicator.Goals as goal

pub returns-then-len-eq0-clause-gives : goal.returns-then-len-eq0-clause-gives
returns-then-len-eq0-clause-gives c =
    let run = c.read_small-indicator in
    sym (indicator_of-none c.args.text.now _ run.result.0 run.result.1
    (front_byte c.args.text.now 95 c.in-95.len_at_least (omega arith)) run.ensures.run c.if-len-eq0.true)
