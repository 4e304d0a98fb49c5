use Rattle.cbor_notes.proofs.dates.DateNotes.{epoch_of_date_is, epoch_of_date_some}
use Rattle.cbor_notes.proofs.laws.days_of_dates.Goals as goal

pub returns-clause-found : goal.returns-clause-found
returns-clause-found c = epoch_of_date_is

pub returns-clause-some : goal.returns-clause-some
returns-clause-some c = epoch_of_date_some
