-- A note may be after what is written.

use Rattle.std.specs.String.{string_bytes}
use Rattle.cbor_edn_writer.proofs.writing.Appended.{noted}
use Rattle.cbor_edn_writer.proofs.print.leaf.push_string.Goals as goal

pub returns : goal.returns
returns c =
    noted c.push_string_note.result c.args.place.now _ _ (string_bytes c.args.out.now)
    (string_bytes c.push_part.new.out)
    (string_bytes c.push_string_note.new.out) c.in_ok-push_part.ensures c.push_string_note.ensures
