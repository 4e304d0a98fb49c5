-- The text of an item that the dialect gives is that of the definitions.
use Rattle.std.specs.String.{string_bytes}
use Rattle.cbor_grammar.specs.Reading.{read_item}
use Rattle.cbor_notation_writer.specs.Dialect.{anywhere}
use Rattle.cbor_notation_writer.specs.mirror.DiagLeaves.{diag_leaves}
use Rattle.cbor_notation_writer.proofs.straight.DiagTexts.{printed_so}
use Rattle.cbor_notation_writer.proofs.straight.Located.{written_plain}
use Rattle.cbor_notation_writer.proofs.outermost.push_outermost_front.Goals as goal

pub returns-clause-printed : goal.returns-clause-printed
returns-clause-printed c =
    let bytes = c.args.bytes.now in
    let old = string_bytes c.args.out.now in
    let new = string_bytes c.push_outermost.new.out in
    printed_so c.push_outermost.result (λ rest. rest.now) c.new.result c.args.layout (read_item 128 bytes) old new
    c.new.ensures.level c.new.ensures.context
    (written_plain diag_leaves (anywhere diag_leaves) (λ p left q at. at) c.push_outermost.result (λ rest. rest.now)
    c.new.result bytes (read_item 128 bytes) old new c.push_outermost.ensures.written)
