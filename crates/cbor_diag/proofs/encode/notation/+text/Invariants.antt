-- The recursion ends, and what is written and the members that are left are the whole text.
use Rattle.std.proofs.Common.{◌≡◌, ◌+◌, ◌-◌, ◌*◌, ◌++◌, true, drop}
use Rattle.std.specs.Io.{StartsWith}
use Rattle.std.specs.String.{string_bytes}
use Rattle.cbor_diag.specs.View.{items_view, pairs_view}
use Rattle.cbor_grammar.specs.WellFormed.{WellFormedItems, WellFormedPairs}
use Rattle.cbor_notation_writer.specs.mirror.LayoutView.{item_text}
use Rattle.cbor_grammar.specs.NotationText.{colon, item_texts, pair_texts}
use Rattle.cbor_notation_writer.proofs.text.Scalars.{members_left}
use Rattle.cbor_diag.proofs.encode.notation.+text.Given as goal

-- Each level is deeper than the one before; at one level an item is asked for its members, and these for the
-- items of the level below.
abbrev pub decreases-push_array : goal.decreases-push_array
decreases-push_array l = (130 - l.context.now.level) * 3

abbrev pub decreases-push_map : goal.decreases-push_map
decreases-push_map l = (130 - l.context.now.level) * 3

abbrev pub decreases-push_tagged : goal.decreases-push_tagged
decreases-push_tagged l = (130 - l.context.now.level) * 3

abbrev pub decreases-push_item : goal.decreases-push_item
decreases-push_item l = (130 - l.context.now.level) * 3 + 1

abbrev pub decreases-push_items : goal.decreases-push_items
decreases-push_items l = (129 - l.context.now.level) * 3 + 2

abbrev pub decreases-push_pairs : goal.decreases-push_pairs
decreases-push_pairs l = (129 - l.context.now.level) * 3 + 2

abbrev pub invariant-push_items-items : goal.invariant-push_items-items
invariant-push_items-items l =
    let rest = items_view (drop l.item-index l.item-items) in
    let texts = item_texts (item_text l.inner) in
    let style = l.style in
    record {
      written : string_bytes l.out ++ members_left style l.first (texts rest)
          ≡ string_bytes l.fn.out ++ members_left style true (texts (items_view l.item-items));
      well : WellFormedItems l.inner.level rest;
      begins : StartsWith (string_bytes l.out) (string_bytes l.fn.out);
    }

abbrev pub invariant-push_pairs-pairs : goal.invariant-push_pairs-pairs
invariant-push_pairs-pairs l =
    let rest = pairs_view (drop l.key-index l.key-items) in
    let style = l.style in
    let texts = pair_texts (item_text l.inner) (colon style) in
    record {
      written : string_bytes l.out ++ members_left style l.first (texts rest)
          ≡ string_bytes l.fn.out ++ members_left style true (texts (pairs_view l.key-items));
      well : WellFormedPairs l.inner.level rest;
      begins : StartsWith (string_bytes l.out) (string_bytes l.fn.out);
    }
