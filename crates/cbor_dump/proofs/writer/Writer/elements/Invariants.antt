-- What is written and the lines of the elements that are left are the lines of all elements.
use Rattle.std.proofs.Common.{ℕ, List, [], length, unwrap_or}
use Rattle.cbor_notes.specs.Element.{element_text}
use Rattle.cbor_dump.specs.Dump.{element_lines, piece_line}
use Rattle.cbor_dump.proofs.dump.Elements.{element_cut}
use Rattle.cbor_dump.proofs.dump.Walks.{lines_of, Left}
use Rattle.cbor_dump.proofs.writer.Writer.elements.Given as goal

abbrev pub invariant-elements : goal.invariant-elements
invariant-elements l =
    let line = λ (e : List ℕ). piece_line l.depth e (unwrap_or (element_text l.of.tag.0 e) []) in
    Left l.fn.self l.self (lines_of line (element_cut l.of.size) l.rest)
    (element_lines l.depth l.of.tag.0 l.of.size l.bytes)

abbrev pub decreases-elements : goal.decreases-elements
decreases-elements l = length l.rest
