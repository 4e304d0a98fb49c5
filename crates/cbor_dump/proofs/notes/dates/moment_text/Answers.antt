-- A number of seconds that does not fit 64 bits is no date and time of the calendar.
use Rattle.std.proofs.Common.{sym}
use Rattle.std.specs.Int.{w128}
use Rattle.std.proofs.lemmas.Int.{to_z-of_z}
use Rattle.cbor_notes.proofs.dates.DateNotes.{datetime_of_epoch-out}
use Rattle.cbor_dump.proofs.dump.NoteTexts.{moment_fits_64}
use Rattle.cbor_dump.proofs.notes.dates.moment_text.Goals as goal

pub returns-in-Err : goal.returns-in-Err
returns-in-Err c =
    let wide = rw (to_z-of_z w128 c.args.seconds c.ranges.seconds) at c.in-Err.ensures in
    sym (datetime_of_epoch-out c.args.seconds (λ is. wide (moment_fits_64 c.args.seconds is.0 is.1)))
