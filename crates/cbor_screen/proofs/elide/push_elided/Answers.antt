use Rattle.std.proofs.Common.{◌∙◌, ap, ℕ, List, [], ◌++◌, vec_items, refl, sym, subst}
use Rattle.std.proofs.lemmas.List.{append-nil}
use Rattle.cbor_marks.specs.Remaining.{rest_of}
use Rattle.cbor_screen.specs.Elided.{IsElided, IsElidedToken}
use Rattle.cbor_screen.proofs.Pieces.{parted, all_done, joined}
use Rattle.cbor_screen.proofs.Pieces.{shown_none, shown_one, shown_both, elided_short}
use Rattle.cbor_screen.proofs.elide.push_elided.Goals as goal

pub pieces-init : goal.pieces-init
pieces-init c =
    ([], [], refl, sym (append-nil (vec_items c.args.out.now.text)), shown_none (IsElidedToken c.args.most))

pub pieces-preserved : goal.pieces-preserved
pieces-preserved c =
    let before = c.pieces.invariant in
    let piece = c.in-Some.piece.now in
    let next = c.in_ok-push_piece.ensures in
    let one = shown_one (IsElidedToken c.args.most) piece next.0 next.2 in (
      before.0 ++ piece,
      before.1 ++ next.0,
      parted (rest_of c.args.text) before.0 (rest_of c.pieces.rest) piece (rest_of c.next_piece.new.self) before.2
          c.in-Some.ensures.piece,
      joined _ _ _ before.1 next.0 before.3 next.1,
      shown_both (IsElidedToken c.args.most) before.0 before.1 piece next.0 before.4 one,
    )

pub returns-clause-short : goal.returns-clause-short
returns-clause-short c = λ short.
    let before = c.pieces.invariant in
    let text = rest_of c.args.text in
    let whole = all_done text before.0 (rest_of c.pieces.rest) before.2 c.in_default.ensures.none in
    let shown = subst (λ (t : List ℕ). IsElided c.args.most t before.1) whole before.4 in
    let same = elided_short c.args.most text before.1 shown short in
    before.3 ∙ ap (λ (t : List ℕ). vec_items c.args.out.now.text ++ t) same
