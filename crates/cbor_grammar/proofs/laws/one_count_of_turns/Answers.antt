-- The turns of a cut or a fault do not depend on how it is shown.
use Rattle.cbor_grammar.proofs.turns.ItemTurns.{one_cut_spent, one_fault_spent}
use Rattle.cbor_grammar.proofs.laws.one_count_of_turns.Goals as goal

pub returns-clause-cut : goal.returns-clause-cut
returns-clause-cut c = one_cut_spent

pub returns-clause-fault : goal.returns-clause-fault
returns-clause-fault c = one_fault_spent
