-- No answer is kept yet.
use Rattle.cbor_fits.proofs.Kept.{holds_none}
use Rattle.cbor_fits.proofs.work.Work.with_steps.Goals as goal

pub returns : goal.returns
returns c = λ r. holds_none r _ c.new.ensures.items
