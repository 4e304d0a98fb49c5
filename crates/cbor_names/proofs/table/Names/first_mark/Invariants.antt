-- Each head takes bytes.
use Rattle.std.proofs.Common.{length}
use Rattle.cbor_names.proofs.table.Names.first_mark.Given as goal

abbrev pub decreases-heads : goal.decreases-heads
decreases-heads l = length l.rest
