-- A number of days that does not fit 64 bits is no date of the calendar.
use Rattle.std.proofs.Common.{sym}
use Rattle.std.specs.Int.{w128}
use Rattle.std.proofs.lemmas.Int.{to_z-of_z}
use Rattle.cbor_notes.proofs.dates.DateNotes.{date_of_epoch-out}
use Rattle.cbor_dump.proofs.dump.NoteTexts.{day_fits_64}
use Rattle.cbor_dump.proofs.notes.dates.day_text.Goals as goal

pub returns-in-Err : goal.returns-in-Err
returns-in-Err c =
    let wide = rw (to_z-of_z w128 c.args.days c.ranges.days) at c.in-Err.ensures in
    sym (date_of_epoch-out c.args.days (λ is. wide (day_fits_64 c.args.days is.0 is.1)))
