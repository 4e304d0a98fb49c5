-- The members that are left are well formed if and only if all members are.
use Rattle.std.proofs.Common.{◌↔◌, drop}
use Rattle.cbor_diag.specs.View.{items_view, pairs_view}
use Rattle.cbor_grammar.specs.WellFormed.{WellFormedItems, WellFormedPairs}
use Rattle.cbor_diag.proofs.syntax.well_formed.+well_formed.Given as goal

abbrev pub invariant-items_well_formed-items : goal.invariant-items_well_formed-items
invariant-items_well_formed-items l =
    WellFormedItems l.level (items_view (drop l.item-index l.item-items)) ↔ WellFormedItems l.level
    (items_view l.item-items)

abbrev pub invariant-pairs_well_formed-pairs : goal.invariant-pairs_well_formed-pairs
invariant-pairs_well_formed-pairs l =
    WellFormedPairs l.level (pairs_view (drop l.key-index l.key-items)) ↔ WellFormedPairs l.level
    (pairs_view l.key-items)
