-- The error of the bytes is the one that reading gives.
use Rattle.std.proofs.Common.{◌≡◌, Result, Err, arith}
use Rattle.cbor_grammar.specs.declared.error.Error.{Error}
use Rattle.cbor_grammar.specs.declared.error.Error.TheVariants as refusal
use Rattle.cbor_grammar.specs.Reading.{Fails}
use Rattle.cbor_grammar.proofs.shared.EmbeddedItems.{rejects_exactly}
use Rattle.cbor_json.proofs.judge.front_error.Goals as goal

fails : {Y : Type 0} (e : Error) (read : Result Y Error) → read ≡ Err e → Fails e read
fails refusal.Memory read h = tt
fails e read h = h

pub returns-in-Cut : goal.returns-in-Cut
returns-in-Cut c = (rejects_exactly 1 c.args.bytes.now (omega arith)).cut (c.extent.ensures.cut.0 c.in-Cut.is)

pub returns-in-Fault : goal.returns-in-Fault
returns-in-Fault c =
    fails c.in-Fault.error _
    ((rejects_exactly 1 c.args.bytes.now (omega arith)).fault c.in-Fault.error c.in-Fault.ensures.fault)
