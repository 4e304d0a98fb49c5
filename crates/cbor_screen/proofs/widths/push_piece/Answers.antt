use Rattle.std.proofs.Common.{take, refl}
use Rattle.cbor_marks.specs.Remaining.{rest_of}
use Rattle.cbor_screen.proofs.Pieces.{widthless_end, widthless_opening}
use Rattle.cbor_screen.proofs.widths.push_piece.Goals as goal

pub returns-then-eq-clause-widthless : goal.returns-then-eq-clause-widthless
returns-then-eq-clause-widthless c =
    let piece = c.args.piece.now in
    let end = c.kept_end-end.result in
    let opening = widthless_opening piece (rest_of c.args.rest.now) (rest_of c.skip_blank.new.self) end
    c.if-end-piece.true c.kept_end-end.ensures.some c.skip_blank.ensures in
    (opening.0, take end piece, opening.1, c.in_ok-push.ensures, opening.2)

pub returns-else-end-piece-clause-widthless : goal.returns-else-end-piece-clause-widthless
returns-else-end-piece-clause-widthless c =
    let piece = c.args.piece.now in
    let end = c.kept_end-end.result in
    (piece, take end piece, refl, c.in_ok-push.ensures, widthless_end piece end c.kept_end-end.ensures.some)
