-- Each call is for a smaller number.
use Rattle.cbor_fits.proofs.controls.+bytes_needed.Given as goal

abbrev pub decreases-bytes_needed : goal.decreases-bytes_needed
decreases-bytes_needed l = l.number
