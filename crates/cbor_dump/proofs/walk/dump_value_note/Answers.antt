-- The note that is written is the one of the whole value, also where the value is not read.
use Rattle.std.proofs.Common.{ap, sym, ◌∙◌}
use Rattle.std.specs.Option.{option_map}
use Rattle.cbor_dump.specs.mirror.NotesView.{note_view}
use Rattle.cbor_dump.proofs.dump.Fronts.{note_written, no_note_written}
use Rattle.cbor_dump.proofs.walk.dump_value_note.Goals as goal

pub returns-in-Some-clause-wrote : goal.returns-in-Some-clause-wrote
returns-in-Some-clause-wrote c = λ i rest e.
    let here = c.args.context.now in
    note_written c.note.result c.args.walk.now.writer c.note.new.self here c.args.tag.0 i (note_view c.in-Some.note)
    (sym (ap (option_map note_view) c.in-Some.is) ∙ c.in_ok-note.ensures
    ∙ c.read.ensures here.level i rest e here.shared c.args.tag.0) c.note.ensures

pub returns-in-None-clause-wrote : goal.returns-in-None-clause-wrote
returns-in-None-clause-wrote c = λ i rest e.
    let here = c.args.context.now in
    no_note_written c.args.walk.now.writer here c.args.tag.0 i
    (sym (c.read.ensures here.level i rest e here.shared c.args.tag.0) ∙ sym c.in_ok-note.ensures
    ∙ ap (option_map note_view) c.in-None.is)
