use Rattle.std.proofs.Common.{refl}
use Rattle.std.specs.Fmt.{digits}
use Rattle.cbor_notes.proofs.examples.numbers_in_groups.Goals as goal

pub returns-clause-zero : goal.returns-clause-zero
unfolding digits
returns-clause-zero c = refl

pub returns-clause-one_group : goal.returns-clause-one_group
unfolding digits
returns-clause-one_group c = refl

pub returns-clause-two_groups : goal.returns-clause-two_groups
unfolding digits
returns-clause-two_groups c = refl

pub returns-clause-three_groups : goal.returns-clause-three_groups
unfolding digits
returns-clause-three_groups c = refl
