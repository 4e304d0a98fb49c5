-- A note may be after what is written.
use Rattle.cbor_grammar.specs.NotationText.{simple_text}
use Rattle.std.specs.String.{string_bytes}
use Rattle.cbor_edn_writer.proofs.writing.Appended.{noted}
use Rattle.cbor_edn_writer.proofs.print.leaf.push_simple.Goals as goal

pub returns : goal.returns
returns c =
    noted c.push_simple_note.result c.args.place.now _ (simple_text c.args.value) (string_bytes c.args.out.now)
    (string_bytes c.push_simple.new.out)
    (string_bytes c.push_simple_note.new.out) c.in_ok-push_simple.ensures c.push_simple_note.ensures
