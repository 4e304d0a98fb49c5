-- What is written and the lines of the text that is left are the lines of the whole text.
use denote.Shadow.{shadow}
use denote.Text.{Utf8}
use Rattle.std.proofs.Common.{ℕ, List, length}
use Rattle.cbor_dump.specs.Comments.{text_comment}
use Rattle.cbor_dump.specs.Pieces.{text_cut, text_pieces}
use Rattle.cbor_dump.specs.Dump.{content_lines, piece_line}
use Rattle.cbor_dump.proofs.dump.Walks.{lines_of, Left}
use Rattle.cbor_dump.proofs.writer.Writer.text_content.Given as goal

abbrev pub invariant-pieces : goal.invariant-pieces
invariant-pieces l =
    let line = λ (piece : List ℕ). piece_line l.depth piece (text_comment piece) in
    shadow (Utf8 l.rest)
    × Left l.fn.self l.self (lines_of line text_cut l.rest)
    (content_lines l.depth text_comment (text_pieces l.text))

abbrev pub decreases-pieces : goal.decreases-pieces
decreases-pieces l = length l.rest
