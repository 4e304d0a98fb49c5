-- Reading the members or pairs that are left gives what reading all of them does.
use Rattle.std.proofs.Common.{◌≡◌, ◌<◌, ◌≤◌, ◌+◌, ◌*◌, ℕ, suc, length, None, option_map}
use Rattle.cbor_rules.specs.FirstViolation.{no_places, members, pairs, kept_item, kept_parts}
use Rattle.cbor_rules.specs.mirror.Opened.{key_of, places_of, is_on}
use Rattle.cbor_rules.proofs.check.Check.+item.Given as goal

abbrev pub decreases-after_item : goal.decreases-after_item
decreases-after_item l = 3 * l.left

abbrev pub decreases-after_parts : goal.decreases-after_parts
decreases-after_parts l = 3 * l.left + 2

abbrev pub decreases-after_members : goal.decreases-after_members
decreases-after_members l = 3 * l.left + 1

abbrev pub decreases-after_pairs : goal.decreases-after_pairs
decreases-after_pairs l = 3 * l.left + 1

abbrev pub decreases-after_members-members : goal.decreases-after_members-members
decreases-after_members-members l = length l.rest

abbrev pub decreases-after_pairs-pairs : goal.decreases-after_pairs-pairs
decreases-after_pairs-pairs l = length l.rest

abbrev pub invariant-after_members-members : goal.invariant-after_members-members
invariant-after_members-members l =
    let rules = l.self.rules in
    let total = l.self.len in
    let read = kept_item l.left rules total in
    (length l.rest ≤ length l.bytes)
    × ((n : ℕ) × (length l.rest < n)
    × (kept_parts n rules total read (members l.count) l.rest
    ≡ kept_parts (suc (length l.bytes)) rules total read (members l.fn.count) l.bytes))

abbrev pub invariant-after_pairs-pairs : goal.invariant-after_pairs-pairs
invariant-after_pairs-pairs l =
    let rules = l.self.rules in
    let total = l.self.len in
    let read = kept_item l.left rules total in
    (length l.rest ≤ length l.bytes) × (is_on l.keys ≡ rules.distinct_keys)
    × ((n : ℕ) × (length l.rest < n)
    × (kept_parts n rules total read (pairs (option_map key_of l.last) (places_of l.keys) l.count) l.rest
    ≡ kept_parts (suc (length l.bytes)) rules total read (pairs None no_places l.fn.count) l.bytes))
