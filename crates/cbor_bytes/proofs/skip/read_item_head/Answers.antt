-- The head of an item is skipped as it is read, and skipping stops where it is cut, has a fault or is too deep.
use Rattle.std.proofs.Common.{Err, ap, sym, ◌∙◌, arith}
use Rattle.cbor_bytes.proofs.skipping.Skips.{head_goes, head_stops}
use Rattle.cbor_bytes.proofs.skipping.Scans.{item_head_few, stop_few}
use Rattle.cbor_bytes.proofs.skip.read_item_head.Goals as goal

pub returns-in-Ok-clause-goes : goal.returns-in-Ok-clause-goes
returns-in-Ok-clause-goes c =
    head_goes c.args.levels c.in-Ok.read.0 c.args.bytes.now c.in-Ok.read.1.now
    (λ i. omega (arith, c.type_inv.bytes i)) c.in-Ok.ensures.gives

pub returns-in-Err-clause-stops : goal.returns-in-Err-clause-stops
returns-in-Err-clause-stops c =
    rw c.in_head.ensures (head_stops c.args.levels c.args.bytes.now c.in-Err.error
    (λ i. omega (arith, c.type_inv.bytes i)) c.in-Err.ensures.gives)

pub returns-in-Err-clause-few : goal.returns-in-Err-clause-few
returns-in-Err-clause-few c = λ cut.
    let is = stop_few c.in-Err.error _ (sym c.in_head.ensures ∙ cut) in
    item_head_few c.args.levels c.args.bytes.now (λ i. omega (arith, c.type_inv.bytes i))
    (c.in-Err.ensures.gives ∙ ap (λ e. Err e) is)
