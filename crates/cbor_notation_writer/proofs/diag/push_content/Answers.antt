-- The text of the bytes that the dialect gives is that of the definitions.
use Rattle.std.specs.String.{string_bytes}
use Rattle.cbor_grammar.specs.declared.width.IntegerWidth.TheVariants as width
use Rattle.cbor_notation_writer.specs.mirror.Straight.{chunk}
use Rattle.cbor_notation_writer.specs.Dialect.{anywhere}
use Rattle.cbor_notation_writer.specs.mirror.DiagLeaves.{diag_leaves}
use Rattle.cbor_notation_writer.proofs.straight.DiagTexts.{content_appended}
use Rattle.cbor_notation_writer.proofs.straight.Located.{content_plain}
use Rattle.cbor_notation_writer.proofs.diag.push_content.Goals as goal

pub returns : goal.returns
returns c =
    let context = c.args.context.now in
    let bytes = c.args.bytes.now in
    let old = string_bytes c.args.out.now in
    let new = string_bytes c.push_content.new.out in
    content_appended c.push_content.result context (chunk width.Unknown bytes) old new
    (content_plain diag_leaves (anywhere diag_leaves) (λ p left q at. at) c.push_content.result context.content context
    bytes (chunk width.Unknown bytes) old new c.push_content.ensures)
