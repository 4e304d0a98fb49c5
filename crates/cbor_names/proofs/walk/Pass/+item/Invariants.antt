-- An item leaves a level less for the items in it, and each of them takes bytes.
use Rattle.std.proofs.Common.{◌≤◌, ◌+◌, ◌*◌, length}
use Rattle.cbor_names.proofs.walk.Pass.+item.Given as goal

abbrev pub decreases-item : goal.decreases-item
decreases-item l = 3 * l.expected.now.left + 2

abbrev pub decreases-tagged : goal.decreases-tagged
decreases-tagged l = 3 * l.expected.now.left + 1

abbrev pub decreases-bytes : goal.decreases-bytes
decreases-bytes l = 3 * l.expected.now.left + 1

abbrev pub decreases-members : goal.decreases-members
decreases-members l = 3 * l.expected.now.left + 1

abbrev pub decreases-pairs : goal.decreases-pairs
decreases-pairs l = 3 * l.expected.now.left + 1

abbrev pub decreases-key : goal.decreases-key
decreases-key l = 3 * l.expected.now.left

abbrev pub invariant-members-members : goal.invariant-members-members
invariant-members-members l = l.index + length l.rest ≤ length l.bytes

abbrev pub decreases-members-members : goal.decreases-members-members
decreases-members-members l = length l.rest

abbrev pub invariant-pairs-pairs : goal.invariant-pairs-pairs
invariant-pairs-pairs l = l.index + length l.rest ≤ length l.bytes

abbrev pub decreases-pairs-pairs : goal.decreases-pairs-pairs
decreases-pairs-pairs l = length l.rest
