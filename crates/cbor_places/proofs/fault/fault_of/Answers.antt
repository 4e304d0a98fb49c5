use Rattle.cbor_grammar.proofs.bytes.Outcomes.{fault_refusal}
use Rattle.cbor_places.proofs.FaultPlaces.{fault_placed}
use Rattle.cbor_places.proofs.fault.fault_of.Goals as goal

pub returns-in_ok-wrong-in-Fault-clause-refused : goal.returns-in_ok-wrong-in-Fault-clause-refused
returns-in_ok-wrong-in-Fault-clause-refused c = rw (c.in_ok-wrong-in-Fault.ensures.error)
    (fault_refusal 1 c.args.bytes.now c.in-Fault.error c.in-Fault.ensures.fault)

pub returns-in_ok-wrong-in-Fault-clause-place : goal.returns-in_ok-wrong-in-Fault-clause-place
returns-in_ok-wrong-in-Fault-clause-place c = rw (c.in_ok-wrong-in-Fault.ensures.error)
    (fault_placed c.args.bytes.now c.in-Fault.error c.in-Fault.end c.in_ok-wrong-in-Fault.field-0.place
    c.in-Fault.ensures.shown c.in-Fault.ensures.fronts_cut c.in_ok-wrong-in-Fault.ensures.last
    c.in_ok-wrong-in-Fault.ensures.within)
