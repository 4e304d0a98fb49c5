-- The head of a chunk is skipped as it is read, and skipping stops where it is cut or has a fault.
use Rattle.std.proofs.Common.{Err, ap, sym, ◌∙◌, arith}
use Rattle.cbor_bytes.proofs.reading.Readings.{failed}
use Rattle.cbor_bytes.proofs.skipping.Skips.{length_goes, length_stops}
use Rattle.cbor_bytes.proofs.skipping.Scans.{length_few, stop_few}
use Rattle.cbor_bytes.proofs.skip.read_chunk_length.Goals as goal

pub returns-in-Ok-clause-goes : goal.returns-in-Ok-clause-goes
returns-in-Ok-clause-goes c =
    length_goes c.args.kind c.in-Ok.read.0 c.args.bytes.now c.in-Ok.read.1.now (λ i. omega (arith, c.type_inv.bytes i))
    (rw (← c.major.ensures) c.in-Ok.ensures.gives)

pub returns-in-Err-clause-stops : goal.returns-in-Err-clause-stops
returns-in-Err-clause-stops c =
    let is = failed c.in-Err.error _ c.in-Err.ensures.refused c.in-Err.ensures.gives in
    rw c.in_head.ensures (length_stops c.args.kind c.args.bytes.now c.in-Err.error
    (λ i. omega (arith, c.type_inv.bytes i)) (rw (← c.major.ensures) is))

pub returns-in-Err-clause-few : goal.returns-in-Err-clause-few
returns-in-Err-clause-few c = λ cut.
    let is = failed c.in-Err.error _ c.in-Err.ensures.refused c.in-Err.ensures.gives in
    let short = stop_few c.in-Err.error _ (sym c.in_head.ensures ∙ cut) in
    length_few _ c.args.bytes.now (is ∙ ap (λ e. Err e) short)
