-- The lines of a string of definite length are those of the content that reading gives.
use Rattle.std.proofs.Common.{refl, arith}
use Rattle.cbor_dump.proofs.dump.Fronts.{string_dumped}
use Rattle.cbor_dump.proofs.walk.dump_string.Goals as goal

pub returns-in_ok-string_content-in-Number-clause-dumped : goal.returns-in_ok-string_content-in-Number-clause-dumped
returns-in_ok-string_content-in-Number-clause-dumped c =
    let w = c.in-Number.field-1 in
    let content = c.in_ok-content-in-Number.content in
    rw c.in-Number.is (string_dumped c.args.context.now c.args.head.0 c.in-Number.count w content
    c.args.bytes.now c.in_ok-content-in-Number.rest.now c.args.walk.now _ (λ n. omega (arith, c.type_inv.bytes n))
    c.in_ok-content-in-Number.ensures.kind (c.in_ok-content-in-Number.ensures.gives w)
    c.in_ok-string_content-in-Number.ensures refl)
