-- Each pair takes bytes.
use Rattle.std.proofs.Common.{length}
use Rattle.cbor_names.proofs.table.Names.after_signs.Given as goal

abbrev pub decreases-pairs : goal.decreases-pairs
decreases-pairs l = length l.pairs.rest.now
