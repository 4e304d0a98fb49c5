use Rattle.jiff.proofs.Family.{epoch_day_range}
use Rattle.jiff.specs.Words.{epoch_day}
use Rattle.cbor_notes.proofs.dates.DateNotes.{date_of_epoch_is, date_of_epoch_some}
use Rattle.cbor_notes.proofs.laws.dates_of_days.Goals as goal

pub returns-clause-found : goal.returns-clause-found
returns-clause-found c = date_of_epoch_is

pub returns-clause-some : goal.returns-clause-some
returns-clause-some c = λ date. date_of_epoch_some (epoch_day date) (epoch_day_range date)
