-- The recursion ends, and what is written is the text of the members before the rest.
use Rattle.std.proofs.Common.{◌≡◌, ◌+◌, ◌-◌, ◌*◌, ◌≤◌, ◌++◌, List, ℕ, length, true}
use Rattle.std.specs.String.{string_bytes}
use Rattle.cbor_grammar.specs.declared.layout.Layout.TheVariants.{Compact}
use Rattle.cbor_grammar.specs.Item.{Items, no_items, Pairs, no_pairs}
use Rattle.cbor_grammar.specs.Reading.{items_in, pairs_in}
use Rattle.cbor_grammar.specs.WellFormed.{levels_left}
use Rattle.cbor_grammar.specs.mirror.Lengths.{left_of}
use Rattle.cbor_bytes.proofs.reading.Readings.{parts_read}
use Rattle.cbor_notation_writer.proofs.straight.Texts.{Reached, ItemsWritten}
use Rattle.cbor_json.specs.JsonLeaves.{json_leaves, is_value}
use Rattle.cbor_json.specs.declared.names.Name.{Name}
use Rattle.cbor_json.specs.declared.print.place.Role.TheVariants.{Key, Value}
use Rattle.cbor_json.specs.mirror.Walking.{AreAt, UniqueTexts}
use Rattle.cbor_json.proofs.walking.Named.{NamedWritten}
use Rattle.cbor_json.proofs.walk.+walk.Given as goal

-- Each level is deeper than the one before.
abbrev pub decreases-push_item : goal.decreases-push_item
decreases-push_item l = (130 - l.place.now.level) * 4

abbrev pub decreases-push_array : goal.decreases-push_array
decreases-push_array l = (129 - l.place.now.level) * 4 + 1

abbrev pub decreases-push_object : goal.decreases-push_object
decreases-push_object l = (129 - l.place.now.level) * 4 + 1

abbrev pub decreases-push_string : goal.decreases-push_string
decreases-push_string l = (129 - l.place.now.level) * 4 + 2

abbrev pub decreases-shown_text : goal.decreases-shown_text
decreases-shown_text l = (129 - l.place.now.level) * 4 + 1

abbrev pub decreases-push_array-items : goal.decreases-push_array-items
decreases-push_array-items l = length l.rest

abbrev pub decreases-push_object-pairs : goal.decreases-push_object-pairs
decreases-push_object-pairs l = length l.rest

-- what was read of the members, and their text
abbrev pub invariant-push_array-items : goal.invariant-push_array-items
invariant-push_array-items l =
    let left = levels_left (l.place.level + 1) in
    let first = json_leaves.inside l.container Compact l.place in
    record {
      found : Items;
      so_far : parts_read left (items_in found (left_of l.count l.held)) l.rest
          ≡ parts_read left (items_in no_items l.count) l.array.1.now;
      written : ItemsWritten json_leaves (UniqueTexts left) l.place first l.container l.style
          (string_bytes l.fn.out) (string_bytes l.out) found l.inner l.held;
      reached : Reached l.count l.held;
      level : l.inner.level ≡ l.place.level + 1;
      layout : l.inner.layout ≡ Compact;
      value : is_value l.inner.role ≡ true;
      role : l.inner.role ≡ Value;
      kept : l.names.items ≡ l.fn.names.items;
      room : l.held + length l.rest ≤ length l.array.1.now;
    }

-- the same of pairs, and where their names are
abbrev pub invariant-push_object-pairs : goal.invariant-push_object-pairs
invariant-push_object-pairs l =
    let left = levels_left (l.place.level + 1) in
    let first = json_leaves.inside l.container Compact l.place in
    record {
      found : Pairs;
      so_far : parts_read left (pairs_in found (left_of l.count l.held)) l.rest
          ≡ parts_read left (pairs_in no_pairs l.count) l.map.1.now;
      ns : List (List ℕ);
      own : List Name;
      written : NamedWritten (UniqueTexts left) l.place first l.count (string_bytes l.fn.out) (string_bytes l.out)
          found l.inner l.held ns;
      here : AreAt (string_bytes l.out) own ns;
      kept : l.names.items ≡ l.fn.names.items ++ own;
      reached : Reached l.count l.held;
      level : l.inner.level ≡ l.place.level + 1;
      layout : l.inner.layout ≡ Compact;
      key : l.inner.role ≡ Key;
      room : l.held + length l.rest ≤ length l.map.1.now;
    }
