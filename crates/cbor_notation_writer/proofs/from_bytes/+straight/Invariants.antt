-- The recursion ends, and what is written is the text of the members before the rest.
use Rattle.std.proofs.Common.{◌≡◌, ◌+◌, ◌-◌, ◌*◌, ◌≤◌, length}
use Rattle.std.specs.Io.{StartsWith}
use Rattle.std.specs.String.{string_bytes}
use Rattle.cbor_grammar.specs.Embedded.{sequence_at}
use Rattle.cbor_grammar.specs.Item.{Items, no_items, Pairs, no_pairs}
use Rattle.cbor_grammar.specs.NotationText.{members_layout}
use Rattle.cbor_grammar.specs.Reading.{items_in, pairs_in}
use Rattle.cbor_grammar.specs.WellFormed.{levels_left}
use Rattle.cbor_grammar.specs.mirror.Lengths.{left_of}
use Rattle.cbor_notation_writer.specs.Dialect.{located, with_bytes}
use Rattle.cbor_notation_writer.specs.mirror.Straight.{TextsBelow}
use Rattle.cbor_bytes.proofs.reading.Readings.{parts_read}
use Rattle.cbor_notation_writer.proofs.straight.Sequences.{SoFar}
use Rattle.cbor_notation_writer.proofs.straight.Texts.{Reached, ItemsWritten, PairsWritten}
use Rattle.cbor_notation_writer.proofs.from_bytes.+straight.Given as goal

-- Each level is deeper than the one before.
abbrev pub decreases-push_front : goal.decreases-push_front
decreases-push_front g l = (130 - g.D.Dialect.leaves.level l.place.now) * 7

abbrev pub decreases-push_moved : goal.decreases-push_moved
decreases-push_moved g l = (129 - g.D.Dialect.leaves.level l.place.now) * 7 + 6

abbrev pub decreases-push_here : goal.decreases-push_here
decreases-push_here g l = (129 - g.D.Dialect.leaves.level l.place.now) * 7 + 5

abbrev pub decreases-push_array_front : goal.decreases-push_array_front
decreases-push_array_front g l = (129 - g.D.Dialect.leaves.level l.place.now) * 7 + 1

abbrev pub decreases-push_map_front : goal.decreases-push_map_front
decreases-push_map_front g l = (129 - g.D.Dialect.leaves.level l.place.now) * 7 + 1

abbrev pub decreases-push_tag_front : goal.decreases-push_tag_front
decreases-push_tag_front g l = (129 - g.D.Dialect.leaves.level l.place.now) * 7 + 1

abbrev pub decreases-push_string_front : goal.decreases-push_string_front
decreases-push_string_front g l = (129 - g.D.Dialect.leaves.level l.place.now) * 7 + 4

abbrev pub decreases-push_definite : goal.decreases-push_definite
decreases-push_definite g l = (129 - g.D.Dialect.leaves.level l.place.now) * 7 + 3

abbrev pub decreases-push_content : goal.decreases-push_content
decreases-push_content g l = (129 - g.D.Dialect.leaves.level l.place.now) * 7 + 2

abbrev pub decreases-push_embedded : goal.decreases-push_embedded
decreases-push_embedded g l = (129 - g.D.Dialect.leaves.level l.place.now) * 7 + 1

abbrev pub decreases-push_sequence : goal.decreases-push_sequence
decreases-push_sequence g l = (129 - g.D.Dialect.leaves.level l.place.now) * 7 + 1

abbrev pub decreases-push_array_front-items : goal.decreases-push_array_front-items
decreases-push_array_front-items g l = length l.rest

abbrev pub decreases-push_sequence-items : goal.decreases-push_sequence-items
decreases-push_sequence-items g l = length l.rest

abbrev pub decreases-push_map_front-pairs : goal.decreases-push_map_front-pairs
decreases-push_map_front-pairs g l = length l.rest

-- what was read of the members, and their text
abbrev pub invariant-push_array_front-items : goal.invariant-push_array_front-items
invariant-push_array_front-items g l =
    let d = g.D.Dialect.leaves in
    let left = levels_left (d.level l.place + 1) in
    let there = located d g.D.Dialect.becomes in
    let place = with_bytes l.place l.bytes in
    let first = there.inside l.container (members_layout l.style) place in
    record {
      found : Items;
      so_far : parts_read left (items_in found (left_of l.count l.held)) l.rest
          ≡ parts_read left (items_in no_items l.count) l.bytes;
      written : ItemsWritten there (TextsBelow there place) place first l.container l.style (string_bytes l.fn.out)
          (string_bytes l.out) found (l.inner, l.rest) l.held;
      reached : Reached l.count l.held;
      level : d.level l.inner ≡ d.level l.place + 1;
      layout : d.layout l.inner ≡ members_layout l.style;
      begun : StartsWith (string_bytes l.out) (string_bytes l.fn.out);
      room : l.held + length l.rest ≤ length l.bytes;
    }

-- the same of pairs
abbrev pub invariant-push_map_front-pairs : goal.invariant-push_map_front-pairs
invariant-push_map_front-pairs g l =
    let d = g.D.Dialect.leaves in
    let left = levels_left (d.level l.place + 1) in
    let there = located d g.D.Dialect.becomes in
    let place = with_bytes l.place l.bytes in
    let first = there.inside l.container (members_layout l.style) place in
    record {
      found : Pairs;
      so_far : parts_read left (pairs_in found (left_of l.count l.held)) l.rest
          ≡ parts_read left (pairs_in no_pairs l.count) l.bytes;
      written : PairsWritten there (TextsBelow there place) place first l.container l.style (string_bytes l.fn.out)
          (string_bytes l.out) found (l.inner, l.rest) l.held;
      reached : Reached l.count l.held;
      level : d.level l.inner ≡ d.level l.place + 1;
      layout : d.layout l.inner ≡ members_layout l.style;
      begun : StartsWith (string_bytes l.out) (string_bytes l.fn.out);
      room : l.held + length l.rest ≤ length l.bytes;
    }

-- the items of a sequence that were read, and their text
abbrev pub invariant-push_sequence-items : goal.invariant-push_sequence-items
invariant-push_sequence-items g l =
    let d = g.D.Dialect.leaves in
    let left = levels_left (d.level l.place + 1) in
    let there = located d g.D.Dialect.becomes in
    let place = with_bytes l.place l.bytes in
    let first = there.inside l.container (members_layout l.style) place in
    record {
      found : Items;
      so_far : SoFar left found l.rest (sequence_at left l.bytes);
      written : ItemsWritten there (TextsBelow there place) place first l.container l.style (string_bytes l.fn.out)
          (string_bytes l.out) found (l.inner, l.rest) l.held;
      level : d.level l.inner ≡ d.level l.place + 1;
      layout : d.layout l.inner ≡ members_layout l.style;
      begun : StartsWith (string_bytes l.out) (string_bytes l.fn.out);
      room : l.held + length l.rest ≤ length l.bytes;
    }
