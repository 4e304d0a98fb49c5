use Rattle.cbor_fits.proofs.MoreLevels.{fits_on, takes_on}
use Rattle.cbor_fits.proofs.laws.more_levels.Goals as goal

pub returns : goal.returns
returns c = record { fits = fits_on; takes = takes_on }
