-- The walk ends, and what it wrote in a loop are the lines of the members before the rest.
use Rattle.std.proofs.Common.{◌≡◌, ◌+◌, ◌-◌, ◌*◌, ◌≤◌, length}
use Rattle.cbor_dump.specs.Dump.{shared_in_items, shared_in_pairs}
use Rattle.cbor_grammar.specs.Item.{Items, no_items, Pairs, no_pairs, item_count, pair_count}
use Rattle.cbor_grammar.specs.Reading.{items_in, pairs_in}
use Rattle.cbor_grammar.specs.WellFormed.{levels_left}
use Rattle.cbor_dump.specs.mirror.Dumped.{items_there, pairs_there, sequence_notes_there, Wrote}
use Rattle.cbor_grammar.specs.mirror.Lengths.{left_of}
use Rattle.cbor_dump.proofs.dump.EmbeddedDumps.{SequenceLeft}
use Rattle.cbor_dump.proofs.dump.Members.{Announced}
use Rattle.cbor_bytes.proofs.reading.Readings.{parts_read}
use Rattle.cbor_dump.proofs.walk.+walk.Given as goal

-- Each level is deeper than the one before, and an embedded item is deeper than the value that embeds it.
abbrev pub decreases-dump_front : goal.decreases-dump_front
decreases-dump_front l = (130 - l.context.now.level) * 8 + 2

abbrev pub decreases-dump_items : goal.decreases-dump_items
decreases-dump_items l = (129 - l.context.now.level) * 8 + 3

abbrev pub decreases-dump_pairs : goal.decreases-dump_pairs
decreases-dump_pairs l = (129 - l.context.now.level) * 8 + 3

abbrev pub decreases-dump_tagged : goal.decreases-dump_tagged
decreases-dump_tagged l = (129 - l.context.now.level) * 8 + 3

abbrev pub decreases-dump_notes : goal.decreases-dump_notes
decreases-dump_notes l = (129 - l.context.now.level) * 8 + 7

abbrev pub decreases-embedded_item : goal.decreases-embedded_item
decreases-embedded_item l = (129 - l.context.now.level) * 8 + 5

abbrev pub decreases-embedded_note : goal.decreases-embedded_note
decreases-embedded_note l = (129 - l.context.now.level) * 8 + 3

abbrev pub decreases-embedded_sequence : goal.decreases-embedded_sequence
decreases-embedded_sequence l = (129 - l.context.now.level) * 8 + 5

abbrev pub decreases-dump_items-items : goal.decreases-dump_items-items
decreases-dump_items-items l = length l.rest

abbrev pub decreases-dump_pairs-pairs : goal.decreases-dump_pairs-pairs
decreases-dump_pairs-pairs l = length l.rest

abbrev pub decreases-embedded_sequence-items : goal.decreases-embedded_sequence-items
decreases-embedded_sequence-items l = length l.rest

-- what was read of the members, and their lines
abbrev pub invariant-dump_items-items : goal.invariant-dump_items-items
invariant-dump_items-items l =
    let left = levels_left (l.context.level + 1) in
    record {
      members : Items;
      so_far : parts_read left (items_in members (left_of l.count l.held)) l.rest
          ≡ parts_read left (items_in no_items l.count) l.bytes;
      count : item_count members ≡ l.held;
      announced : Announced l.count l.held;
      wrote : Wrote l.fn.walk.writer l.walk.writer (items_there l.inner l.fn.walk.shared members);
      shared : l.walk.shared ≡ l.fn.walk.shared + shared_in_items members;
      room : l.held + length l.rest ≤ length l.bytes;
    }

abbrev pub invariant-dump_pairs-pairs : goal.invariant-dump_pairs-pairs
invariant-dump_pairs-pairs l =
    let left = levels_left (l.context.level + 1) in
    record {
      members : Pairs;
      so_far : parts_read left (pairs_in members (left_of l.count l.held)) l.rest
          ≡ parts_read left (pairs_in no_pairs l.count) l.bytes;
      count : pair_count members ≡ l.held;
      announced : Announced l.count l.held;
      wrote : Wrote l.fn.walk.writer l.walk.writer (pairs_there l.inner l.fn.walk.shared members);
      shared : l.walk.shared ≡ l.fn.walk.shared + shared_in_pairs members;
      room : l.held + length l.rest ≤ length l.bytes;
    }

-- the notes that are left, and those that are written, are the whole
abbrev pub invariant-embedded_sequence-items : goal.invariant-embedded_sequence-items
invariant-embedded_sequence-items l = record {
  left : SequenceLeft (l.context.level + 1) l.context.depth l.fn.walk.writer l.walk.writer l.rest
      (sequence_notes_there l.context l.bytes);
  shared : l.walk.shared ≡ l.fn.walk.shared;
}
