-- What is written has no notes of a caller.
use Rattle.std.specs.String.{string_bytes}
use Rattle.cbor_notation_writer.specs.mirror.LeafView.{atom_of}
use Rattle.cbor_edn_writer.specs.EdnLeaves.{EdnLeaf}
use Rattle.cbor_edn_writer.proofs.writing.Appended.{beside_nothing}
use Rattle.cbor_edn_writer.proofs.print.EdnDialect.leaf.Goals as goal

pub returns : goal.returns
returns c =
    let p = c.args.place.now in
    beside_nothing c.push_leaf.result p (EdnLeaf p (atom_of c.args.leaf)) (string_bytes c.args.out.now)
    (string_bytes c.push_leaf.new.out) c.push_leaf.ensures
