-- The lines that are written of a typed array are one for each of its elements.
use Rattle.std.proofs.Common.{◌∙◌, ℕ, List, [], length, take, drop, unwrap_or, ap, subst, arith}
use Rattle.std.proofs.lemmas.List.{nil_from_length}
use Rattle.cbor_notes.specs.Element.{element_text}
use Rattle.cbor_notes.specs.Layout.{DumpLine}
use Rattle.cbor_dump.specs.Dump.{element_lines, piece_line}
use Rattle.cbor_dump.proofs.dump.Pieces.{some_left, none_left}
use Rattle.cbor_dump.proofs.dump.Elements.{element_cut, element_cuts}
use Rattle.cbor_dump.proofs.dump.Walks.{left_all, left_none, lines_of, Left, piece_few, pieces_left}
use Rattle.cbor_dump.proofs.writer.Writer.elements.Goals as goal

abbrev line_of : ℕ → ℕ → List ℕ → DumpLine
line_of depth tag e = piece_line depth e (unwrap_or (element_text tag e) [])

pub elements-init : goal.elements-init
elements-init c = left_all c.args.self.now
    (element_lines c.args.depth c.args.of.tag.0 c.args.of.size c.args.bytes.now)

pub piece_line-requires-clause-few : goal.piece_line-requires-clause-few
piece_line-requires-clause-few c =
    piece_few c.elements.rest.now c.split_at.result.0.now c.min.result c.split_at.ensures.front
    (omega (arith, c.min.ensures, c.requires.few))

pub elements-preserved : goal.elements-preserved
elements-preserved c =
    let rest = c.elements.rest.now in
    let size = c.args.of.size in
    let some = some_left (length rest) c.elements-test.ensures in
    let front = c.split_at.ensures.front ∙ ap (λ n. take n rest) c.min.ensures in
    let back = c.split_at.ensures.back ∙ ap (λ n. drop n rest) c.min.ensures in
    pieces_left (line_of c.args.depth c.args.of.tag.0) (element_cut size) (element_cuts size c.requires.some) rest
    c.split_at.result.0.now c.split_at.result.1.now some front back c.args.self.now c.elements.self
    c.piece_line.new.self (element_lines c.args.depth c.args.of.tag.0 size c.args.bytes.now)
    c.in_ok-piece_line.ensures c.elements.invariant

pub returns : goal.returns
returns c =
    let line = line_of c.args.depth c.args.of.tag.0 in
    let cut = element_cut c.args.of.size in
    let all = element_lines c.args.depth c.args.of.tag.0 c.args.of.size c.args.bytes.now in
    let none = nil_from_length c.elements.rest.now (none_left (length c.elements.rest.now) c.elements-test.ensures) in
    left_none c.args.self.now c.elements.self all
    (subst (λ rest. Left c.args.self.now c.elements.self (lines_of line cut rest) all) none c.elements.invariant)
