use Rattle.cbor_view.proofs.OneSequence.{of_all, before, not_both, first_of_all, first_before}
use Rattle.cbor_view.proofs.laws.one_output.Goals as goal

pub returns-clause-of_all : goal.returns-clause-of_all
returns-clause-of_all c = of_all

pub returns-clause-before : goal.returns-clause-before
returns-clause-before c = before

pub returns-clause-not_both : goal.returns-clause-not_both
returns-clause-not_both c = not_both

pub returns-clause-first_of_all : goal.returns-clause-first_of_all
returns-clause-first_of_all c = first_of_all

pub returns-clause-first_before : goal.returns-clause-first_before
returns-clause-first_before c = first_before
