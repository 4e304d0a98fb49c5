use Rattle.std.proofs.Common.{[], ◌++◌, vec_items, refl, sym, subst, List, ℕ}
use Rattle.std.proofs.lemmas.List.{append-nil}
use Rattle.cbor_marks.specs.Remaining.{rest_of}
use Rattle.cbor_screen.specs.Colored.{IsColored, in_color_of}
use Rattle.cbor_screen.proofs.Pieces.{parted, all_done, joined}
use Rattle.cbor_screen.proofs.Pieces.{colored_none, colored_one, colored_both, colored_same}
use Rattle.cbor_screen.proofs.color.push_colored.Goals as goal

pub pieces-init : goal.pieces-init
pieces-init c = ([], [], refl, sym (append-nil (vec_items c.args.out.now)), colored_none)

pub pieces-preserved : goal.pieces-preserved
pieces-preserved c =
    let before = c.pieces.invariant in
    let kind = c.in-Some.kind in
    let piece = c.in-Some.piece.now in
    let shown = in_color_of kind piece in (
      before.0 ++ piece,
      before.1 ++ shown,
      parted (rest_of c.args.text) before.0 (rest_of c.pieces.rest) piece (rest_of c.next_piece.new.self) before.2
          c.in-Some.ensures.piece,
      joined _ _ _ before.1 shown before.3 c.in_ok-push_piece.ensures,
      colored_both before.0 before.1 piece shown before.4 (colored_one kind piece c.in-Some.ensures.line),
    )

pub returns-clause-same : goal.returns-clause-same
returns-clause-same c =
    let before = c.pieces.invariant in
    let whole = all_done (rest_of c.args.text) before.0 (rest_of c.pieces.rest) before.2 c.in_default.ensures.none in
    let shown = subst (λ (t : List ℕ). IsColored t before.1) whole before.4 in
    (before.1, before.3, colored_same (rest_of c.args.text) before.1 shown)
