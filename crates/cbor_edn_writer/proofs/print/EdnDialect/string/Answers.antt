-- What is written has no notes of a caller.
use Rattle.std.specs.String.{string_bytes}
use Rattle.cbor_grammar.specs.mirror.StringView.{kind_of, bytes_of, borrowed_chunk}
use Rattle.cbor_edn_writer.specs.EdnLeaves.{Noted, says_string, quoted_string}
use Rattle.cbor_edn_writer.proofs.writing.Appended.{beside_nothing}
use Rattle.cbor_edn_writer.proofs.print.EdnDialect.string.Goals as goal

pub returns : goal.returns
returns c =
    let p = c.args.place.now in
    beside_nothing c.push_string.result p
    (Noted p (says_string p (kind_of c.args.content) (bytes_of c.args.content))
    (quoted_string (kind_of c.args.content) (borrowed_chunk c.args.width c.args.content)))
    (string_bytes c.args.out.now) (string_bytes c.push_string.new.out) c.push_string.ensures
