use Rattle.cbor_page.proofs.Pieces.{wrong_after}
use Rattle.cbor_page.proofs.shown.push_partial.Goals as goal

pub returns : goal.returns
returns c = wrong_after _ _ _ _ _ c.in_ok-push_lines.ensures c.in_ok-push_wrong.ensures
