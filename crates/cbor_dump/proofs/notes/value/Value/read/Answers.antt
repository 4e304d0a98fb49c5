use Rattle.cbor_dump.specs.mirror.NotesView.{members_view}
use Rattle.cbor_dump.proofs.dump.NotedValues.{behind_note, members_note_is, no_value, not_array}
use Rattle.cbor_dump.proofs.notes.value.Value.read.Goals as goal

pub returns-in-Array : goal.returns-in-Array
returns-in-Array c = λ level i rest e known t.
    members_note_is (members_view c.read.result) known t level c.args.bytes.now c.in-Ok.rest.now rest
    c.in-Array.count i (rw c.in-Array.is at c.in-Ok.ensures.gives) c.read.ensures e

pub returns-in_default-head : goal.returns-in_default-head
returns-in_default-head c = λ level i rest e known t.
    behind_note c.behind.result.0 known t level c.args.bytes.now c.in-Ok.rest.now c.behind.result.1.now rest
    c.in-Ok.head i (not_array c.in-Ok.head c.in_default-head.not-Array) c.in-Ok.ensures.gives c.behind.ensures e

pub returns-in_default : goal.returns-in_default
returns-in_default c = λ level i rest e known t.
    absurd (no_value level c.args.bytes.now rest _ i c.in_default.ensures.gives e)
