-- The note of a prefix is its address, filled up with zeros, and its length.
use Rattle.std.proofs.Common.{◌≤◌, ◌++◌, length, codes, decimal, sym, ap, ◌∙◌}
use Rattle.cbor_dump.specs.Notes.{address_text, family_size}
use Rattle.cbor_dump.proofs.dump.NoteTexts.{filled_up, prefix_is, size_small}
use Rattle.cbor_dump.proofs.notes.addresses.AddressNotes.prefix_note.Goals as goal

pub returns-in_ok-push_length-in-Some : goal.returns-in_ok-push_length-in-Some
returns-in_ok-push_length-in-Some c =
    let f = c.args.self.family in
    let bytes = c.args.bytes.now in
    let short : length bytes ≤ family_size f = rw c.size-size.ensures at c.if-bytes-size.false in
    let filled = filled_up bytes c.copy_from_slice.new.self (family_size f) c.size-size.result
    c.copy_from_slice.ensures.after c.size-size.ensures short (size_small f) in
    let found = rw c.in-Some.is at c.in_ok-text.ensures.some in
    let text = c.deref.ensures ∙ c.in_ok-push_length-in-Some.ensures
    ∙ ap (λ t. t ++ codes "/" ++ decimal c.args.len) (found.1 ∙ ap (address_text f) filled) in
    rw (prefix_is f c.args.len bytes (sym c.ends_with.ensures.value ∙ c.if-ends_with.false) short)
    (rw text at c.shown.ensures)
