use Rattle.std.proofs.Common.{refl, sym, subst}
use Rattle.cbor_grammar.specs.Item.{no_items}
use Rattle.cbor_dump.specs.mirror.NotesView.{AreMembers, then_view}
use Rattle.cbor_grammar.specs.mirror.Lengths.{left_of}
use Rattle.cbor_dump.proofs.dump.NotedValues.{front_seen}
use Rattle.cbor_bytes.proofs.reading.Readings.{none_held}
use Rattle.cbor_dump.proofs.notes.value.Members.read.Goals as goal

pub returns : goal.returns
returns c = λ levels is are.
    let count = c.args.count in
    let first = c.next_member.result in
    let second = c.next_member-2.result in
    let third = c.next_member-3.result in
    front_seen 2 levels (left_of count 1) is first.0 first.1.now (then_view second.0 (then_view third.0 no_items))
    (c.next_member.ensures levels is
    (subst (λ left. AreMembers levels left c.args.bytes.now is) (sym (none_held count)) are))
    (λ js more. front_seen 1 levels (left_of count 2) js second.0 second.1.now (then_view third.0 no_items)
    (c.next_member-2.ensures levels js more)
    (λ ks more. front_seen 0 levels (left_of count 3) ks third.0 third.1.now no_items
    (c.next_member-3.ensures levels ks more) (λ ls more. refl)))
