-- What is written has no note of a caller.
use Rattle.std.specs.String.{string_bytes}
use Rattle.cbor_grammar.specs.StringKind.{no_chunks}
use Rattle.cbor_edn_writer.proofs.writing.Appended.{after_nothing}
use Rattle.cbor_edn_writer.proofs.print.EdnDialect.no_parts.Goals as goal

pub returns : goal.returns
returns c =
    after_nothing c.push_no_parts.result c.args.place.now (no_chunks c.args.kind) (string_bytes c.args.out.now)
    (string_bytes c.push_no_parts.new.out) c.push_no_parts.ensures
