-- Each call follows one rule less.
use Rattle.cbor_fits.proofs.tables.+is_group_within.Given as goal

abbrev pub decreases-is_group_within : goal.decreases-is_group_within
decreases-is_group_within l = l.most
