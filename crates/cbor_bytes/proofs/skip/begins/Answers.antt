-- Where skipping stops says how the bytes begin: an item, a cut or a fault with its end.
use Rattle.std.proofs.Common.{arith}
use Rattle.cbor_bytes.proofs.skipping.Extents.{item_extent, cut_extent, fault_extent}
use Rattle.cbor_bytes.proofs.skip.begins.Goals as goal

pub returns-in-Ok : goal.returns-in-Ok
returns-in-Ok c = item_extent c.args.bytes.now c.in-Ok.rest.now (λ i. omega (arith, c.type_inv.bytes i))
    c.in-Ok.ensures.goes

pub returns-in-Err-Cut : goal.returns-in-Err-Cut
returns-in-Err-Cut c = cut_extent c.args.bytes.now (λ i. omega (arith, c.type_inv.bytes i))
    (rw c.in-Err-Cut.field-0-is at c.in-Err-Cut.ensures.stops)

pub returns-in-Err-Fault : goal.returns-in-Err-Fault
returns-in-Err-Fault c = fault_extent c.args.bytes.now c.in-Err-Fault.error c.in-Err-Fault.after
    (λ i. omega (arith, c.type_inv.bytes i)) (rw c.in-Err-Fault.field-0-is at c.in-Err-Fault.ensures.stops)
