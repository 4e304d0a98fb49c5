use Rattle.cbor_grammar.specs.mirror.MajorNumber.{major_number}
use Rattle.cbor_edit.proofs.Heads.{head_written}
use Rattle.cbor_edit.proofs.width.head_bytes.Goals as goal

pub returns : goal.returns
returns c =
    head_written (major_number c.args.major) c.args.number c.args.width _ _ c.requires c.new-out.ensures.items
    c.in_ok-push_head.ensures
