-- A list of indefinite length and an embedded item leave a level less for the items in them.
use Rattle.std.proofs.Common.{◌+◌, ◌*◌}
use Rattle.cbor_edn_writer.proofs.print.measure.Walk.+walk.Given as goal

abbrev pub decreases-items : goal.decreases-items
decreases-items l = 5 * l.deep + 4

abbrev pub decreases-head : goal.decreases-head
decreases-head l = 5 * l.deep + 3

abbrev pub decreases-string : goal.decreases-string
decreases-string l = 5 * l.deep + 2

abbrev pub decreases-array : goal.decreases-array
decreases-array l = 5 * l.deep + 2

abbrev pub decreases-map : goal.decreases-map
decreases-map l = 5 * l.deep + 2

abbrev pub decreases-embedded : goal.decreases-embedded
decreases-embedded l = 5 * l.deep + 1

abbrev pub decreases-until_break : goal.decreases-until_break
decreases-until_break l = 5 * l.deep + 1
