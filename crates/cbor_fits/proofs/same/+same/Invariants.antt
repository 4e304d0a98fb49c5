-- What came so far is the same.
use Rattle.std.proofs.Common.{◌≡◌, map, take}
use Rattle.cbor_fits.specs.View.{view}
use Rattle.cbor_fits.specs.Rests.{pair_view}
use Rattle.cbor_fits.proofs.same.+same.Given as goal

abbrev pub invariant-same_members-members : goal.invariant-same_members-members
invariant-same_members-members l = map view (take l.index l.member-items) ≡ map view (take l.index l.second)

abbrev pub invariant-same_pairs-pairs : goal.invariant-same_pairs-pairs
invariant-same_pairs-pairs l = map pair_view (take l.index l.key-items) ≡ map pair_view (take l.index l.second)
