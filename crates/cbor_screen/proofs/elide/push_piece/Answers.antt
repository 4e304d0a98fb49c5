use Rattle.std.proofs.Common.{◌+◌, ◌++◌, take, drop, codes, vec_items, ◌∙◌}
use Rattle.std.specs.Fmt.{decimal}
use Rattle.cbor_screen.proofs.Pieces.{elided_cut, grouped}
use Rattle.cbor_screen.proofs.elide.push_piece.Goals as goal

pub returns-in_ok-push_cut-in-Some : goal.returns-in_ok-push_cut-in-Some
returns-in_ok-push_cut-in-Some c =
    let piece = c.args.piece.now in
    let cut = c.in-Some.cut in
    let front = take cut.from piece in
    let rest = drop (cut.from + cut.len) piece in (
      front ++ codes "..." ++ rest ++ codes " /" ++ decimal cut.bytes ++ codes " bytes/",
      c.in_ok-push_cut-in-Some.ensures
          ∙ grouped (vec_items c.args.out.now.text) front (codes "...") rest (codes " /") (decimal cut.bytes)
          (codes " bytes/"),
      elided_cut c.args.most piece cut.from cut.len cut.bytes c.in-Some.ensures.bytes c.in-Some.ensures.long,
    )
