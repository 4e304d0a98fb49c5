-- An item is skipped at the front if and only if reading finds one there.
use Rattle.std.proofs.Common.{◌-◌, arith}
use Rattle.cbor_bytes.proofs.skipping.Extents.{item_there, none_there}
use Rattle.cbor_bytes.proofs.skip.after_front.Goals as goal

pub returns-in-Ok-clause-some : goal.returns-in-Ok-clause-some
returns-in-Ok-clause-some c =
    item_there (129 - c.args.level) c.args.bytes.now c.in-Ok.rest.now c.in-Ok.ensures.goes

pub returns-in-Err-clause-none : goal.returns-in-Err-clause-none
returns-in-Err-clause-none c =
    none_there c.args.level (129 - c.args.level) c.args.bytes.now c.in-Err.field-0 (omega arith)
    (λ i. omega (arith, c.type_inv.bytes i)) c.in-Err.ensures.stops
