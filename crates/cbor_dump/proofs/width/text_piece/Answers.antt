-- The longest piece that is found is the longest of all.
use Rattle.std.proofs.Common.{◌∙◌, length, take, drop, ap, sym, subst, arith}
use Rattle.std.specs.Str.{IsUtf8}
use Rattle.std.proofs.lemmas.List.{length-take}
use Rattle.std.proofs.lemmas.Str.{IsUtf8-drop}
use Rattle.cbor_dump.specs.Pieces.{text_cut}
use Rattle.cbor_dump.proofs.dump.Fits.{text_cut_low}
use Rattle.cbor_dump.proofs.dump.Pieces.{some_left}
use Rattle.cbor_dump.proofs.dump.Widths.{text_step, text_low}
use Rattle.cbor_dump.proofs.width.text_piece.Goals as goal

pub pieces-preserved : goal.pieces-preserved
pieces-preserved c =
    let rest = c.pieces.rest.now in
    let piece = c.split_at.result.0.now in
    let after = c.split_at.result.1.now in
    let some = some_left (length rest) c.if-not-is_empty.ensures in
    let front = c.split_at.ensures.front ∙ ap (λ n. take n rest) c.text_cut.ensures.cut in
    let back = c.split_at.ensures.back ∙ ap (λ n. drop n rest) c.text_cut.ensures.cut in
    let step = text_step rest piece after some front back in
    let low = text_cut_low rest in
    let short = ap length front ∙ length-take (text_cut rest) rest in (
      subst IsUtf8 (sym c.split_at.ensures.back)
          (IsUtf8-drop rest c.text_cut.result c.pieces.invariant.0 c.text_cut.ensures.boundary),
      omega (arith, step, c.pieces.invariant.1),
      omega (arith, short, low, c.pieces.invariant.2),
    )

pub returns-after-pieces-clause-longest : goal.returns-after-pieces-clause-longest
returns-after-pieces-clause-longest c =
    omega (
      arith,
      text_low (length c.pieces.rest.now) c.pieces.rest.now,
      c.pieces.invariant.1,
      c.pieces.invariant.2,
    )
