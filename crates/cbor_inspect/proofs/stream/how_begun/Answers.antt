use Rattle.std.proofs.Common.{arith}
use Rattle.cbor_bytes.proofs.skipping.ScanAnswers.{extent_once}
use Rattle.cbor_inspect.proofs.StreamLemmas.{found}
use Rattle.cbor_inspect.proofs.stream.how_begun.Goals as goal

pub returns-clause-begins : goal.returns-clause-begins
returns-clause-begins c =
    let e = c.extent.ensures in
    found c.args.bytes.now c.extent.result e.item e.cut e.shown e.fronts_cut

pub returns-clause-only : goal.returns-clause-only
returns-clause-only c = λ answer is.
    let e = c.extent.ensures in
    extent_once c.args.bytes.now c.extent.result answer (λ i. omega (arith, c.type_inv.bytes i))
    (found c.args.bytes.now c.extent.result e.item e.cut e.shown e.fronts_cut) is
