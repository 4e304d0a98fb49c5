use Rattle.std.proofs.Common.{◌∙◌, [], ◌++◌, vec_items, refl, sym}
use Rattle.std.proofs.lemmas.List.{append-nil}
use Rattle.cbor_marks.specs.Remaining.{rest_of}
use Rattle.cbor_screen.specs.Widthless.{IsWidthlessToken}
use Rattle.cbor_screen.proofs.Pieces.{parted, joined, shown_none, shown_one, shown_both}
use Rattle.cbor_screen.proofs.widths.push_without_widths.Goals as goal

pub pieces-init : goal.pieces-init
pieces-init c = ([], [], refl, sym (append-nil (vec_items c.args.out.now.text)), shown_none IsWidthlessToken)

pub pieces-preserved : goal.pieces-preserved
pieces-preserved c =
    let before = c.pieces.invariant in
    let next = c.in_ok-push_piece.ensures.widthless in
    let one = shown_one IsWidthlessToken next.0 next.1 next.4 in (
      before.0 ++ next.0,
      before.1 ++ next.1,
      parted (rest_of c.args.text) before.0 (rest_of c.pieces.rest) next.0 (rest_of c.push_piece.new.rest) before.2
          (c.in-Some.ensures.piece ∙ next.2),
      joined _ _ _ before.1 next.1 before.3 next.3,
      shown_both IsWidthlessToken before.0 before.1 next.0 next.1 before.4 one,
    )
