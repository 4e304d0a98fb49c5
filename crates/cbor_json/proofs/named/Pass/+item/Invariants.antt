-- Each level is deeper than the one before.
use Rattle.std.proofs.Common.{◌+◌, ◌-◌, ◌*◌}
use Rattle.cbor_json.proofs.named.Pass.+item.Given as goal

abbrev pub decreases-item : goal.decreases-item
decreases-item l = (130 - l.known.place.level) * 3

abbrev pub decreases-byte_string : goal.decreases-byte_string
decreases-byte_string l = (130 - l.known.place.level) * 3 - 1

abbrev pub decreases-members : goal.decreases-members
decreases-members l = (130 - l.inside.place.level) * 3 + 1

abbrev pub decreases-pairs : goal.decreases-pairs
decreases-pairs l = (130 - l.inside.place.level) * 3 + 1

abbrev pub decreases-embedded : goal.decreases-embedded
decreases-embedded l = (130 - l.inside.place.level) * 3 + 1
