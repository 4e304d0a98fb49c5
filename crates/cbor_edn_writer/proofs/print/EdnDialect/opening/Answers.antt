-- What is written has no note of a caller.
use Rattle.std.specs.String.{string_bytes}
use Rattle.cbor_edn_writer.specs.EdnLeaves.{edn_opening}
use Rattle.cbor_edn_writer.proofs.writing.Appended.{after_nothing}
use Rattle.cbor_edn_writer.proofs.print.EdnDialect.opening.Goals as goal

pub returns : goal.returns
returns c =
    after_nothing c.push_opening.result c.args.place.now (edn_opening c.args.container c.args.style)
    (string_bytes c.args.out.now) (string_bytes c.push_opening.new.out) c.push_opening.ensures
