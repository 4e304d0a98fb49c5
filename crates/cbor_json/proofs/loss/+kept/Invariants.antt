-- Each level is deeper than the one before, and all that was passed is kept.
use Rattle.std.proofs.Common.{◌≡◌, ◌+◌, ◌-◌, ◌*◌, ◌≤◌, length}
use Rattle.cbor_grammar.specs.Item.{Items, no_items, item_count, Pairs, no_pairs, pair_count, parts}
use Rattle.cbor_grammar.specs.Reading.{items_in, pairs_in}
use Rattle.cbor_grammar.specs.WellFormed.{levels_left}
use Rattle.cbor_grammar.specs.mirror.Lengths.{left_of}
use Rattle.cbor_bytes.proofs.reading.Readings.{parts_read}
use Rattle.cbor_json.specs.Kept.{KeptItems, KeptPairs, ReadsItems}
use Rattle.cbor_json.proofs.loss.+kept.Given as goal

abbrev pub decreases-kept_front : goal.decreases-kept_front
decreases-kept_front l = (130 - l.level) * 2

abbrev pub decreases-kept_items : goal.decreases-kept_items
decreases-kept_items l = (129 - l.level) * 2 + 1

abbrev pub decreases-kept_pairs : goal.decreases-kept_pairs
decreases-kept_pairs l = (129 - l.level) * 2 + 1

abbrev pub decreases-kept_items-items : goal.decreases-kept_items-items
decreases-kept_items-items l = length l.rest

abbrev pub decreases-kept_pairs-pairs : goal.decreases-kept_pairs-pairs
decreases-kept_pairs-pairs l = length l.rest

abbrev pub invariant-kept_items-items : goal.invariant-kept_items-items
invariant-kept_items-items l =
    let left = levels_left (l.level + 1) in
    record {
      found : Items;
      so_far : parts_read left (items_in found (left_of l.count l.held)) l.rest
          ≡ parts_read left (items_in no_items l.count) l.bytes;
      reads : ReadsItems left l.bytes found l.rest;
      kept : KeptItems found;
      count : l.held ≡ item_count found;
      room : l.held + length l.rest ≤ length l.bytes;
    }

-- the same of pairs
abbrev pub invariant-kept_pairs-pairs : goal.invariant-kept_pairs-pairs
invariant-kept_pairs-pairs l =
    let left = levels_left (l.level + 1) in
    record {
      found : Pairs;
      so_far : parts_read left (pairs_in found (left_of l.count l.held)) l.rest
          ≡ parts_read left (pairs_in no_pairs l.count) l.bytes;
      reads : ReadsItems left l.bytes (parts found) l.rest;
      kept : KeptPairs found;
      count : l.held ≡ pair_count found;
      room : l.held + length l.rest ≤ length l.bytes;
    }
