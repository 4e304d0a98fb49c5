use Rattle.cbor_notes.proofs.dates.DateNotes.{datetime_of_epoch_is, datetime_of_epoch_some}
use Rattle.cbor_notes.proofs.laws.moments_of_seconds.Goals as goal

pub returns-clause-found : goal.returns-clause-found
returns-clause-found c = datetime_of_epoch_is

pub returns-clause-some : goal.returns-clause-some
returns-clause-some c = datetime_of_epoch_some
