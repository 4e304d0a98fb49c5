use Rattle.cbor_notes.proofs.dates.DateTimeNotes.{epoch_of_datetime_is, epoch_of_datetime_some}
use Rattle.cbor_notes.proofs.laws.seconds_of_moments.Goals as goal

pub returns-clause-found : goal.returns-clause-found
returns-clause-found c = epoch_of_datetime_is

pub returns-clause-some : goal.returns-clause-some
returns-clause-some c = epoch_of_datetime_some
