-- What is written and the encoding of the members that are left are the encoding of all members.
use Rattle.std.proofs.Common.{◌≡◌, ℕ, ◌++◌, drop}
use Rattle.std.specs.Io.{StartsWith}
use Rattle.cbor_diag.specs.View.{items_view, pairs_view}
use Rattle.cbor_grammar.specs.WellFormed.{WellFormedItems, WellFormedPairs}
use Rattle.cbor_grammar.specs.Written.{encoded_items, encoded_pairs}
use Rattle.cbor_diag.proofs.encode.bytes.+push.Given as goal

abbrev pub invariant-push_items-items : goal.invariant-push_items-items
invariant-push_items-items l =
    let rest = items_view (drop l.item-index l.item-items) in
    record {
      written : l.out.items ++ encoded_items rest ≡ l.fn.out.items ++ encoded_items (items_view l.item-items);
      level : ℕ;
      well : WellFormedItems level rest;
      begins : StartsWith l.out.items l.fn.out.items;
    }

abbrev pub invariant-push_pairs-pairs : goal.invariant-push_pairs-pairs
invariant-push_pairs-pairs l =
    let rest = pairs_view (drop l.key-index l.key-items) in
    record {
      written : l.out.items ++ encoded_pairs rest ≡ l.fn.out.items ++ encoded_pairs (pairs_view l.key-items);
      level : ℕ;
      well : WellFormedPairs level rest;
      begins : StartsWith l.out.items l.fn.out.items;
    }
