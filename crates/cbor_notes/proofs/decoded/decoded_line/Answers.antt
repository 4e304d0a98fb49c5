use Rattle.std.proofs.Common.{◌∙◌, arith}
use Rattle.std.specs.String.{string_bytes}
use Rattle.hex.specs.Hex.{encode_lower}
use Rattle.cbor_notes.proofs.bases.DecodedLineLemmas.{blanks_more, line_is}
use Rattle.cbor_notes.proofs.decoded.decoded_line.Goals as goal

pub blanks-preserved : goal.blanks-preserved
blanks-preserved c =
    c.in_ok-push.ensures.bytes
    ∙ blanks_more (encode_lower c.args.piece.now) (string_bytes c.blanks.line) _ c.blanks.counter _
    c.blanks.auto.counter c.blanks.invariant
    (c.in_ok-push.ensures.ascii (omega arith))

pub returns : goal.returns
returns c =
    line_is c.args.piece.now (string_bytes c.blanks.line) (string_bytes c.push_str.new.self) _ c.args.width
    c.blanks.counter c.requires.piece
    c.blanks-test.false (c.blanks.auto.counter-end c.requires.piece) c.blanks.invariant c.in_ok-push_str.ensures.bytes
    c.in_ok-push_quoted_bytes.ensures.text
