-- The lines that are written of a text are one for each of its pieces.
use Rattle.std.proofs.Common.{◌∙◌, ◌≤◌, ℕ, List, [], ◌∷◌, length, take, drop, ap, sym, subst, arith}
use Rattle.std.proofs.lemmas.List.{nil_from_length}
use Rattle.std.specs.Str.{IsUtf8}
use Rattle.std.proofs.lemmas.Str.{IsUtf8-drop}
use Rattle.cbor_notes.specs.Layout.{DumpLine}
use Rattle.cbor_dump.specs.Comments.{text_comment}
use Rattle.cbor_dump.specs.Dump.{content_lines, piece_line}
use Rattle.cbor_dump.specs.Pieces.{text_cut, text_pieces}
use Rattle.cbor_dump.specs.mirror.Dumped.{Wrote}
use Rattle.cbor_dump.proofs.dump.Fits.{text_cut_low}
use Rattle.cbor_dump.proofs.dump.Pieces.{text_cuts, text_long, some_left, none_left}
use Rattle.cbor_dump.proofs.dump.Walks.{content_is, left_all, left_none, lines_of, Left, piece_few, pieces_left}
use Rattle.cbor_dump.proofs.writer.Writer.text_content.Goals as goal

abbrev line_of : ℕ → List ℕ → DumpLine
line_of depth p = piece_line depth p (text_comment p)

pub pieces-init : goal.pieces-init
pieces-init c =
    let text = c.args.text.now in
    let all = content_lines c.args.depth text_comment (text_pieces text) in
    let whole = ap (content_lines c.args.depth text_comment) (text_long text (omega arith))
    ∙ content_is c.args.depth text_comment text_cut text_cuts text (omega arith) in
    (c.utf8.text, subst (λ ls. Left c.args.self.now c.args.self.now ls all) whole (left_all c.args.self.now all))

pub text_cut-requires : goal.text_cut-requires
text_cut-requires c = some_left (length c.pieces.rest.now) c.pieces-test.ensures

pub pieces-smaller : goal.pieces-smaller
pieces-smaller c =
    let some = some_left (length c.pieces.rest.now) c.pieces-test.ensures in
    let one = text_cuts c.pieces.rest.now some in
    omega (arith, one, c.text_cut.ensures.cut, c.split_at.ensures.back_len)

pub piece_line-requires-in-pieces-clause-few : goal.piece_line-requires-in-pieces-clause-few
piece_line-requires-in-pieces-clause-few c =
    subst (λ (bytes : List ℕ). length bytes ≤ 24) (sym c.as_bytes-in-pieces.ensures.value)
    (piece_few c.pieces.rest.now c.split_at.result.0.now c.text_cut.result c.split_at.ensures.front
    (omega (arith, c.text_cut.ensures.cut, text_cut_low c.pieces.rest.now)))

pub pieces-preserved : goal.pieces-preserved
pieces-preserved c =
    let rest = c.pieces.rest.now in
    let piece = c.split_at.result.0.now in
    let now = c.pieces.self in
    let next = c.piece_line-in-pieces.new.self in
    let some = some_left (length rest) c.pieces-test.ensures in
    let front = c.split_at.ensures.front ∙ ap (λ n. take n rest) c.text_cut.ensures.cut in
    let back = c.split_at.ensures.back ∙ ap (λ n. drop n rest) c.text_cut.ensures.cut in
    let wrote = subst (λ bytes. Wrote now next (piece_line c.args.depth bytes (text_comment piece) ∷ []))
    c.as_bytes-in-pieces.ensures.value c.in_ok-piece_line.ensures in (
      subst IsUtf8 (sym c.split_at.ensures.back)
          (IsUtf8-drop rest c.text_cut.result c.pieces.invariant.0 c.text_cut.ensures.boundary),
      pieces_left (line_of c.args.depth) text_cut text_cuts rest piece c.split_at.result.1.now some front back
          c.args.self.now now next (content_lines c.args.depth text_comment (text_pieces c.args.text.now)) wrote
          c.pieces.invariant.1,
    )

pub returns : goal.returns
returns c =
    let all = content_lines c.args.depth text_comment (text_pieces c.args.text.now) in
    let none = nil_from_length c.pieces.rest.now (none_left (length c.pieces.rest.now) c.pieces-test.ensures) in
    left_none c.args.self.now c.pieces.self all
    (subst (λ rest. Left c.args.self.now c.pieces.self (lines_of (line_of c.args.depth) text_cut rest) all) none
    c.pieces.invariant.1)
