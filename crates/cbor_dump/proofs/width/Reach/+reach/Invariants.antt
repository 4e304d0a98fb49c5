-- The search ends, and in a loop it has the width of the members before the rest.
use Rattle.std.proofs.Common.{◌≡◌, ◌+◌, ◌-◌, ◌*◌, ◌≤◌, length, max}
use Rattle.cbor_grammar.specs.Item.{Items, no_items, Pairs, no_pairs}
use Rattle.cbor_grammar.specs.Reading.{items_in, pairs_in}
use Rattle.cbor_grammar.specs.WellFormed.{levels_left}
use Rattle.cbor_grammar.specs.mirror.Lengths.{left_of}
use Rattle.cbor_dump.specs.mirror.Widths.{items_width, pairs_width, width_there}
use Rattle.cbor_bytes.proofs.reading.Readings.{parts_read}
use Rattle.cbor_dump.proofs.width.Reach.+reach.Given as goal

-- Each level is deeper than the one before.
abbrev pub decreases-front : goal.decreases-front
decreases-front l = (130 - l.place.level) * 2

abbrev pub decreases-items : goal.decreases-items
decreases-items l = (129 - l.place.level) * 2 + 1

abbrev pub decreases-pairs : goal.decreases-pairs
decreases-pairs l = (129 - l.place.level) * 2 + 1

abbrev pub decreases-items-items : goal.decreases-items-items
decreases-items-items l = length l.rest

abbrev pub decreases-pairs-pairs : goal.decreases-pairs-pairs
decreases-pairs-pairs l = length l.rest

-- what was read of the members, and how far their digits reach
abbrev pub invariant-items-items : goal.invariant-items-items
invariant-items-items l =
    let left = levels_left (l.fn.place.level + 1) in
    record {
      members : Items;
      so_far : parts_read left (items_in members (left_of l.count l.held)) l.rest
          ≡ parts_read left (items_in no_items l.count) l.bytes;
      reach : l.self.widest ≡ max l.fn.self.widest (items_width (width_there l.inner) members);
      room : l.held + length l.rest ≤ length l.bytes;
    }

abbrev pub invariant-pairs-pairs : goal.invariant-pairs-pairs
invariant-pairs-pairs l =
    let left = levels_left (l.fn.place.level + 1) in
    record {
      members : Pairs;
      so_far : parts_read left (pairs_in members (left_of l.count l.held)) l.rest
          ≡ parts_read left (pairs_in no_pairs l.count) l.bytes;
      reach : l.self.widest ≡ max l.fn.self.widest (pairs_width (width_there l.inner) members);
      room : l.held + length l.rest ≤ length l.bytes;
    }
