-- Bytes without a simple value that is too long are the encoding of their item; the errors are those of the bytes.
use Rattle.cbor_grammar.proofs.bytes.Outcomes.{fault_refusal}
use Rattle.cbor_bytes.proofs.bytes.StrictHeads.{strict_is}
use Rattle.cbor_diag.proofs.rewrite.is_encoding.Goals as goal

pub returns-else-len-bytes-clause-known : goal.returns-else-len-bytes-clause-known
returns-else-len-bytes-clause-known c = λ yes.
    let found = c.in-Item.ensures.item in
    let is = strict_is c.args.bytes.now found.0 c.in-Item.len found.1 c.if-len-bytes.false (c.is_strict.ensures yes) in
    (found.0, is.0, is.1)

pub returns-in-Fault-clause-refused : goal.returns-in-Fault-clause-refused
returns-in-Fault-clause-refused c =
    fault_refusal 1 c.args.bytes.now c.in-Fault.error c.in-Fault.ensures.fault
