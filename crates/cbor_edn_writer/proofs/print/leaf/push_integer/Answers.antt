-- A note may be after what is written.
use Rattle.std.proofs.Common.{◌≡◌, ◌++◌, subst}
use Rattle.std.specs.String.{string_bytes}
use Rattle.cbor_grammar.specs.NotationText.{number}
use Rattle.cbor_edn_writer.specs.EdnLeaves.{marked}
use Rattle.cbor_edn_writer.proofs.writing.Appended.{noted}
use Rattle.cbor_edn_writer.proofs.print.leaf.push_integer.Goals as goal

pub returns : goal.returns
returns c =
    let old = string_bytes c.args.out.now in
    let mid = string_bytes c.push_number.new.out in
    let w = marked c.args.place.now.style.widths c.args.value c.args.width in
    noted c.push_integer_note.result c.args.place.now _ (number c.args.value w) old mid
    (string_bytes c.push_integer_note.new.out)
    (subst (λ x. mid ≡ old ++
    (number c.args.value x)) c.shown_width.ensures c.in_ok-push_number.ensures) c.push_integer_note.ensures
