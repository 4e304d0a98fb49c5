use Rattle.std.proofs.Common.{sym}
use Rattle.cbor_page.proofs.Pieces.{shows_all, shows_rest}
use Rattle.cbor_page.proofs.shown.push_data.Goals as goal

pub returns : goal.returns
returns c =
    let partial = c.in_ok-push_partial.ensures in
    shows_rest c.args.piece.bytes.now _ _ _ _ partial.0 partial.1 c.in_ok-front.ensures partial.2
    (rw (sym c.split_at.ensures.back) partial.3)
