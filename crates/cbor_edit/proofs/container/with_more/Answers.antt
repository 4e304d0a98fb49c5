use Rattle.cbor_grammar.specs.mirror.MajorNumber.{major_number}
use Rattle.cbor_edit.proofs.Edits.{with_is}
use Rattle.cbor_edit.proofs.container.with_more.Goals as goal

pub returns : goal.returns
returns c = record {
  more =
      with_is c.args.bytes.now c.args.member.now c.in_ok-new.new.items c.extend_from_slice.new.self.items
      c.extend_from_slice-2.new.self.items c.push_end.new.out.items c.args.container.start c.in-Some.opened.inner
      c.in-Some-members_end.last c.args.container.end (major_number c.in-Some.opened.major) c.in-Some.opened.count
      c.in-Some-one_more.count c.in-Some.ensures.major c.in-Some.ensures.head c.in-Some-one_more.ensures.more
      c.if-members.false c.in-Some-members_end.ensures.members c.in_ok-new.ensures
      c.in_ok-extend_from_slice.ensures.items c.in_ok-extend_from_slice-2.ensures.items c.in_ok-push_end.ensures;
}
