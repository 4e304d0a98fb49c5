-- The note of a reference is its number, and says where no value with it was shared before.
use Rattle.std.proofs.Common.{◌≡◌, false, [], nat_lt, codes, if◌then◌else◌, ap, ◌∙◌}
use Rattle.std.specs.String.{string_bytes}
use Rattle.cbor_notes.specs.Text.{grouped}
use Rattle.cbor_dump.specs.Comments.{in_brackets}
use Rattle.cbor_grammar.specs.declared.width.IntegerWidth.TheVariants.{Unknown}
use Rattle.cbor_dump.specs.mirror.NotesView.{atom_view, value_view}
use Rattle.cbor_dump.proofs.dump.NoteTexts.{reference_is, unknown_if, unknown_else}
use Rattle.cbor_dump.proofs.notes.shared.reference_note.Goals as goal
use Rattle.cbor_dump.proofs.notes.shared.reference_note.Goals.{then-number-known, else-number-known}

pub returns : goal.returns
returns c =
    let n = c.in-Atom-Integer.number in
    let known = c.args.known in
    let unknown = c.if-number-known.unknown.now in
    let seen = ap value_view c.in-Atom-Integer.is
    ∙ ap atom_view (rw c.in-Atom-Integer.is at c.in-Atom-Integer.field-0-is) in
    let digits = c.deref.ensures ∙ c.in_ok-digits.ensures.text ∙ ap (λ k. grouped k false) c.from.ensures in
    let front = c.in_ok-note.ensures ∙ ap (in_brackets (codes "reference-to")) digits in
    let back : unknown ≡ (if nat_lt n known then [] else codes ", not previously shared") =
    elim c.if-number-known.branch [
      | then-number-known w ↦ unknown_if n known unknown w.if-number-known.true (ap (λ s. s.now) w.unknown-is)
      | else-number-known w ↦ unknown_else n known unknown w.if-number-known.false (ap (λ s. s.now) w.unknown-is)
    ] in
    reference_is known n Unknown (value_view c.args.value) (string_bytes c.in_ok-note.note) unknown
    (string_bytes c.push_str.new.self) seen front back c.in_ok-push_str.ensures.bytes
