use Rattle.jiff.specs.Words.{epoch_day}
use Rattle.cbor_notes.proofs.dates.CalendarDays.{date_on, place, place_of}
use Rattle.cbor_notes.proofs.laws.calendar_days.Goals as goal

pub returns-clause-days : goal.returns-clause-days
returns-clause-days c = date_on

pub returns-clause-dates : goal.returns-clause-dates
returns-clause-dates c = λ date. let at = place_of date in (place (epoch_day date), at.0, at.1, at.2)
