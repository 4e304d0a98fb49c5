use Rattle.std.proofs.Common.{refl}
use Rattle.std.specs.Fmt.{digits}
use Rattle.cbor_notes.specs.DateTime.{fraction_text}
use Rattle.cbor_notes.proofs.examples.fractions.Goals as goal

pub returns-clause-three : goal.returns-clause-three
unfolding digits fraction_text
returns-clause-three c = refl

pub returns-clause-without : goal.returns-clause-without
unfolding digits fraction_text
returns-clause-without c = refl

pub returns-clause-six : goal.returns-clause-six
unfolding fraction_text
returns-clause-six c = refl

pub returns-clause-nine : goal.returns-clause-nine
unfolding fraction_text
returns-clause-nine c = refl

pub returns-clause-cut : goal.returns-clause-cut
unfolding fraction_text
returns-clause-cut c = refl

pub returns-clause-zero : goal.returns-clause-zero
unfolding fraction_text
returns-clause-zero c = refl
