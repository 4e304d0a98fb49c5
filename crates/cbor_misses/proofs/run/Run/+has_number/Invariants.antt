-- Each call for a part has less depth left than the one that it is made by.
use Rattle.cbor_misses.proofs.run.Run.+has_number.Given as goal

abbrev pub decreases-has_number : goal.decreases-has_number
decreases-has_number l = l.depth
