-- The note of 16 bytes is their UUID: its first line is the text, and the others stand below.
use Rattle.std.proofs.Common.{ap, sym, ◌∙◌, arith}
use Rattle.std.proofs.Common.{refl, ap, sym, ◌∙◌, arith}
use Rattle.std.specs.String.{string_bytes}
use Rattle.cbor_dump.specs.mirror.NotesView.{atom_view, unstated, value_view}
use Rattle.cbor_dump.proofs.dump.NoteTexts.{fields_are, first_some, uuid_is}
use Rattle.cbor_dump.proofs.notes.encoded.uuid_note.Goals as goal

pub remove-text-requires : goal.remove-text-requires
remove-text-requires c =
    let lines = c.in_ok-below-in-Some.below in
    let some = first_some string_bytes lines.items c.in-Some.octets.now c.in_ok-below-in-Some.ensures.texts in
    omega (arith, some, lines.ok.0)

pub returns-in_ok-below-in-Some : goal.returns-in_ok-below-in-Some
returns-in_ok-below-in-Some c =
    let bytes = c.in-Atom-Bytes.bytes.now in
    let seen = ap value_view c.in-Atom-Bytes.is ∙ ap atom_view (rw c.in-Atom-Bytes.is at c.in-Atom-Bytes.field-0-is) in
    let uuid = uuid_is (value_view c.args.value) (unstated bytes) bytes c.in-Some.octets.now seen refl
    c.in-Some.ensures.cases in
    fields_are string_bytes c.in_ok-below-in-Some.below.items c.in-Some.octets.now c.remove-text.result
    c.remove-text.new.self.items c.in_ok-below-in-Some.ensures.texts c.remove-text.ensures.value
    c.remove-text.ensures.items
    ∙ sym uuid
