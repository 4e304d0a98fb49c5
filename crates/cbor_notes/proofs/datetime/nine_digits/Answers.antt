use Rattle.cbor_notes.proofs.dates.DateTimeTexts.{nine_places}
use Rattle.cbor_notes.proofs.datetime.nine_digits.Goals as goal

pub returns : goal.returns
returns c = rw c.copy_from_slice.ensures.after (nine_places c.args.digits.now c.min-count.result c.min-count.ensures)
