-- The lines that are written of a byte string are one for each of its pieces.
use Rattle.std.proofs.Common.{◌∙◌, ℕ, List, length, take, drop, ap, subst, arith}
use Rattle.std.proofs.lemmas.List.{nil_from_length}
use Rattle.cbor_notes.specs.Layout.{DumpLine}
use Rattle.cbor_dump.specs.Comments.{bytes_comment}
use Rattle.cbor_dump.specs.Dump.{bytes_lines, piece_line}
use Rattle.cbor_dump.proofs.dump.Pieces.{byte_cut, byte_cuts, some_left, none_left}
use Rattle.cbor_dump.proofs.dump.Walks.{content_is, left_all, left_none, lines_of, Left, piece_few, pieces_left}
use Rattle.cbor_dump.proofs.writer.Writer.bytes_content.Goals as goal

pub pieces-init : goal.pieces-init
pieces-init c =
    let some = some_left (length c.args.bytes.now) c.if-is_empty.ensures in
    let comment = bytes_comment c.args.encoding c.args.bytes.now in
    let whole = content_is c.args.depth comment byte_cut byte_cuts c.args.bytes.now some in
    let writer = c.args.self.now in
    subst (λ ls. Left writer writer ls (bytes_lines c.args.depth c.args.encoding c.args.bytes.now)) whole
    (left_all writer (bytes_lines c.args.depth c.args.encoding c.args.bytes.now))

abbrev line_of : ℕ → (List ℕ → List ℕ) → List ℕ → DumpLine
line_of depth comment p = piece_line depth p (comment p)

pub piece_line-requires-in-pieces-clause-few : goal.piece_line-requires-in-pieces-clause-few
piece_line-requires-in-pieces-clause-few c =
    piece_few c.pieces.rest.now c.split_at.result.0.now c.min.result c.split_at.ensures.front
    (omega (arith, c.min.ensures))

pub pieces-preserved : goal.pieces-preserved
pieces-preserved c =
    let rest = c.pieces.rest.now in
    let some = some_left (length rest) c.pieces-test.ensures in
    let front = c.split_at.ensures.front ∙ ap (λ n. take n rest) c.min.ensures in
    let back = c.split_at.ensures.back ∙ ap (λ n. drop n rest) c.min.ensures in
    let line = line_of c.args.depth (bytes_comment c.args.encoding c.args.bytes.now) in
    pieces_left line byte_cut byte_cuts rest c.split_at.result.0.now c.split_at.result.1.now some front back
    c.args.self.now c.pieces.self c.piece_line-in-pieces.new.self
    (bytes_lines c.args.depth c.args.encoding c.args.bytes.now) c.in_ok-piece_line.ensures c.pieces.invariant

pub returns : goal.returns
returns c =
    let line = line_of c.args.depth (bytes_comment c.args.encoding c.args.bytes.now) in
    let all = bytes_lines c.args.depth c.args.encoding c.args.bytes.now in
    let none = nil_from_length c.pieces.rest.now (none_left (length c.pieces.rest.now) c.pieces-test.ensures) in
    left_none c.args.self.now c.pieces.self all
    (subst (λ rest. Left c.args.self.now c.pieces.self (lines_of line byte_cut rest) all) none c.pieces.invariant)
