-- The members that are left leave of the rest what all members leave of the budget.
use Rattle.std.proofs.Common.{◌≡◌, ◌-◌, drop}
use Rattle.cbor_diag.specs.View.{items_view, pairs_view}
use Rattle.cbor_grammar.specs.Estimate.{estimated_items, estimated_pairs}
use Rattle.cbor_diag.proofs.encode.notation.estimate.+estimate.Given as goal

-- the members that are left leave of the rest what all leave of the budget
abbrev pub invariant-left_after_items-items : goal.invariant-left_after_items-items
invariant-left_after_items-items l = l.left - estimated_items (items_view (drop l.item-index l.item-items))
    ≡ l.fn.budget - estimated_items (items_view l.item-items)

abbrev pub invariant-left_after_pairs-pairs : goal.invariant-left_after_pairs-pairs
invariant-left_after_pairs-pairs l = l.left - estimated_pairs (pairs_view (drop l.key-index l.key-items))
    ≡ l.fn.budget - estimated_pairs (pairs_view l.key-items)
