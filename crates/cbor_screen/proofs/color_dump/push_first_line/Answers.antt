use Rattle.std.proofs.Common.{◌++◌, take, drop, refl}
use Rattle.std.proofs.lemmas.List.{take_rest}
use Rattle.cbor_screen.proofs.Pieces.{colored_next, joined}
use Rattle.cbor_screen.proofs.color_dump.push_first_line.Goals as goal

pub returns-clause-colored : goal.returns-clause-colored
returns-clause-colored c =
    let text = c.args.text.now in
    let end = c.line_end-end.result in
    let line = c.in_ok-push_line.ensures in
    let feed = take 1 (drop end text) in
    let push = rw (take_rest text end) at c.in_ok-extend_from_slice.ensures.items in (
      line.0 ++ feed,
      joined _ _ _ line.0 feed line.1 push,
      colored_next text end line.0 feed line.2 refl,
    )
