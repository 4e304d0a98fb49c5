-- What is written and the lines of the bytes that are left are the lines of all bytes.
use Rattle.std.proofs.Common.{length}
use Rattle.cbor_dump.specs.Comments.{bytes_comment}
use Rattle.cbor_dump.specs.Pieces.{byte_pieces}
use Rattle.cbor_dump.specs.Dump.{content_lines, piece_line}
use Rattle.cbor_dump.proofs.dump.Pieces.{byte_cut}
use Rattle.cbor_dump.proofs.dump.Walks.{lines_of, Left}
use Rattle.cbor_dump.proofs.writer.Writer.bytes_content.Given as goal

abbrev pub invariant-pieces : goal.invariant-pieces
invariant-pieces l =
    let comment = bytes_comment l.encoding l.bytes in
    Left l.fn.self l.self (lines_of (λ piece. piece_line l.depth piece (comment piece)) byte_cut l.rest)
    (content_lines l.depth comment (byte_pieces l.bytes))

abbrev pub decreases-pieces : goal.decreases-pieces
decreases-pieces l = length l.rest
