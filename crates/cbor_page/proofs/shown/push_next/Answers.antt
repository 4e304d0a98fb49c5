use Rattle.std.proofs.Common.{sym}
use Rattle.cbor_page.proofs.Pieces.{shows_front, shows_none}
use Rattle.cbor_page.proofs.shown.push_next.Goals as goal

pub returns-then-not-front : goal.returns-then-not-front
returns-then-not-front c = shows_none c.args.piece.bytes.now c.args.front.used _ c.requires

pub returns : goal.returns
returns c =
    let lines = c.in_ok-shown.ensures.lines in
    let rest = c.split_at.ensures.back in
    shows_front c.args.piece.bytes.now c.args.front.used c.in_ok-shown.shown.used _ _ lines.0 lines.1 c.requires
    (rw (sym rest) c.in_ok-shown.ensures.used) lines.2 (rw (sym rest) lines.4)
