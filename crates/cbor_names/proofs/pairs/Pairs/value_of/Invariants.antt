-- Each pair takes bytes.
use Rattle.std.proofs.Common.{length}
use Rattle.cbor_names.proofs.pairs.Pairs.value_of.Given as goal

abbrev pub decreases-pairs : goal.decreases-pairs
decreases-pairs l = length l.pairs.rest.now
