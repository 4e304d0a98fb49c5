use Rattle.std.proofs.Common.{◌≡◌, ℕ, ◌++◌, ◌≤◌, drop}
use Rattle.cbor_diag.specs.View.{items_view}
use Rattle.cbor_grammar.specs.WellFormed.{WellFormedItems}
use Rattle.cbor_grammar.specs.Written.{encoded_items}
use Rattle.cbor_edn.proofs.read.pieces.encoded.Given as goal

abbrev pub invariant-items : goal.invariant-items
invariant-items l =
    let rest = items_view (drop l.item-index l.item-items) in
    record {
      written : l.bytes.items ++ encoded_items rest ≡ encoded_items (items_view l.item-items);
      level : ℕ;
      low : 1 ≤ level;
      well : WellFormedItems level rest;
    }
