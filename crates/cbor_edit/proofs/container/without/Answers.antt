use Rattle.cbor_grammar.specs.mirror.MajorNumber.{major_number}
use Rattle.cbor_edit.proofs.Edits.{without_is}
use Rattle.cbor_edit.proofs.container.without.Goals as goal

pub returns : goal.returns
returns c = record {
  without =
      without_is c.args.bytes.now c.in_ok-new.new.items c.push_between.new.out.items c.args.start c.in-Some.opened.inner
      (major_number c.in-Some.opened.major) c.in-Some.opened.count c.in-Some-less.count c.args.gone.now
      c.in-Some.ensures.major c.in-Some.ensures.head c.in-Some-less.ensures.less c.in_ok-new.ensures
      (rw c.in-Some-2.is at c.in_ok-push_between.ensures);
}
