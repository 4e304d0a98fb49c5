-- Notes are before and after what is written.
use Rattle.std.specs.String.{string_bytes}
use Rattle.cbor_notation_writer.specs.mirror.LeafView.{atom_of}
use Rattle.cbor_edn_writer.specs.EdnLeaves.{EdnLeaf}
use Rattle.cbor_edn_writer.proofs.writing.Appended.{beside_wrote}
use Rattle.cbor_edn_writer.proofs.print.noted.NotedEdnDialect.leaf.Goals as goal

pub returns : goal.returns
returns c =
    let p = c.args.place.now in
    beside_wrote c.push_after.result p (EdnLeaf p (atom_of c.args.leaf)) (string_bytes c.args.out.now)
    (string_bytes c.push_before.new.out) (string_bytes c.push_leaf.new.out) (string_bytes c.push_after.new.out)
    c.in_ok-push_before.ensures c.in_ok-push_leaf.ensures c.push_after.ensures
