-- What is written for the members that are left is written for all of them.
use Rattle.std.proofs.Common.{◌≡◌, ◌≤◌, ◌+◌, ◌-◌, ◌*◌, length}
use Rattle.cbor_reencode.proofs.Containers.{ItemsMore, PairsMore}
use Rattle.cbor_reencode.proofs.encoder.Encoder.+item.Given as goal

abbrev pub decreases-push_item : goal.decreases-push_item
decreases-push_item l = 2 * (130 - l.level)

abbrev pub decreases-push_array : goal.decreases-push_array
decreases-push_array l = 2 * (130 - l.level) - 1

abbrev pub decreases-push_map : goal.decreases-push_map
decreases-push_map l = 2 * (130 - l.level) - 1

abbrev pub decreases-push_tagged : goal.decreases-push_tagged
decreases-push_tagged l = 2 * (130 - l.level) - 1

abbrev pub decreases-push_array-members : goal.decreases-push_array-members
decreases-push_array-members l = length l.rest

abbrev pub decreases-push_map-pairs : goal.decreases-push_map-pairs
decreases-push_map-pairs l = length l.rest

abbrev pub invariant-push_array-members : goal.invariant-push_array-members
invariant-push_array-members l = record {
  few : l.number + length l.rest ≤ length l.members;
  untouched : l.out.items ≡ l.fn.out.items;
  more : ItemsMore l.self.rules (l.level + 1) l.count l.number l.members l.rest l.written.items;
}

abbrev pub invariant-push_map-pairs : goal.invariant-push_map-pairs
invariant-push_map-pairs l = record {
  few : length l.pairs.items + length l.rest ≤ length l.members;
  untouched : l.out.items ≡ l.fn.out.items;
  more : PairsMore l.self.rules (l.level + 1) l.count l.members l.rest l.pairs.items;
}
