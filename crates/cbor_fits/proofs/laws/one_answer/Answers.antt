use Rattle.cbor_fits.proofs.MoreLevels.{one_fits, one_takes, never_both}
use Rattle.cbor_fits.proofs.laws.one_answer.Goals as goal

pub returns : goal.returns
returns c = record { fits = one_fits; takes = one_takes; apart = never_both }
