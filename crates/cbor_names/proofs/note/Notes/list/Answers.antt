-- Notes are in order before one more comes.
use Rattle.cbor_names.proofs.Rising.{rise}
use Rattle.cbor_names.proofs.note.Notes.list.Goals as goal

pub returns : goal.returns
returns c = record {
  in_order = rise c.args.self.now.len 0 c.loop-found.list.items c.loop-found.from c.loop-found.invariant;
}
