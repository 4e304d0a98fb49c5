-- How the bytes begin, in the words of the grammar: the answer if and only if it is so, whatever follows.
use Rattle.std.proofs.Common.{arith}
use Rattle.cbor_grammar.proofs.bytes.ExactlyOne.{one_outcome}
use Rattle.cbor_bytes.proofs.skipping.Extents.{item_is, every_item, cut_exactly, fault_is, every_fault, fault_shown}
use Rattle.cbor_bytes.proofs.skipping.Extents.{fronts_cut, item_stays, fault_stays}
use Rattle.cbor_bytes.proofs.skip.extent.Goals as goal

pub returns-clause-item : goal.returns-clause-item
returns-clause-item c = item_is c.args.bytes.now c.begins.result c.begins.ensures

pub returns-clause-every_item : goal.returns-clause-every_item
returns-clause-every_item c = every_item c.args.bytes.now c.begins.result
    (one_outcome 1 128 c.args.bytes.now (omega arith) (λ i. omega (arith, c.type_inv.bytes i))) c.begins.ensures

pub returns-clause-cut : goal.returns-clause-cut
returns-clause-cut c = cut_exactly c.args.bytes.now c.begins.result
    (one_outcome 1 128 c.args.bytes.now (omega arith) (λ i. omega (arith, c.type_inv.bytes i))) c.begins.ensures

pub returns-clause-fault : goal.returns-clause-fault
returns-clause-fault c = fault_is c.args.bytes.now c.begins.result c.begins.ensures

pub returns-clause-every_fault : goal.returns-clause-every_fault
returns-clause-every_fault c = every_fault c.args.bytes.now c.begins.result
    (one_outcome 1 128 c.args.bytes.now (omega arith) (λ i. omega (arith, c.type_inv.bytes i))) c.begins.ensures

pub returns-clause-shown : goal.returns-clause-shown
returns-clause-shown c = fault_shown c.args.bytes.now c.begins.result c.begins.ensures

pub returns-clause-fronts_cut : goal.returns-clause-fronts_cut
returns-clause-fronts_cut c = fronts_cut c.args.bytes.now c.begins.result c.begins.ensures

pub returns-clause-item_stays : goal.returns-clause-item_stays
returns-clause-item_stays c = item_stays c.args.bytes.now c.begins.result c.begins.ensures

pub returns-clause-fault_stays : goal.returns-clause-fault_stays
returns-clause-fault_stays c = fault_stays c.args.bytes.now c.begins.result c.begins.ensures
