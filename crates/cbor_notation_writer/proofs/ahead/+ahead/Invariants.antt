-- The look ends, and in a loop the budget lacks the estimate of the members before the rest.
use Rattle.std.proofs.Common.{◌+◌, ◌*◌, ◌≤◌}
use Rattle.cbor_notation_writer.proofs.straight.Ahead.{ItemsSoFar, PairsSoFar}
use Rattle.cbor_notation_writer.proofs.ahead.+ahead.Given as goal

-- Each head takes a part of the budget, and the first member of a container has what is left after that.
abbrev pub decreases-item_ahead : goal.decreases-item_ahead
decreases-item_ahead l = 2 * l.budget

abbrev pub decreases-items_ahead : goal.decreases-items_ahead
decreases-items_ahead l = 2 * l.budget + 1

abbrev pub decreases-pairs_ahead : goal.decreases-pairs_ahead
decreases-pairs_ahead l = 2 * l.budget + 1

abbrev pub decreases-items_ahead-items : goal.decreases-items_ahead-items
decreases-items_ahead-items l = l.left

abbrev pub decreases-pairs_ahead-pairs : goal.decreases-pairs_ahead-pairs
decreases-pairs_ahead-pairs l = l.left

-- What was found so far. Each member takes more than one character.
abbrev pub invariant-items_ahead-items : goal.invariant-items_ahead-items
invariant-items_ahead-items l = record {
  so_far : ItemsSoFar l.budget l.count l.bytes l.held l.left l.rest;
  room : l.held + l.left ≤ l.budget;
}

abbrev pub invariant-pairs_ahead-pairs : goal.invariant-pairs_ahead-pairs
invariant-pairs_ahead-pairs l = record {
  so_far : PairsSoFar l.budget l.count l.bytes l.held l.left l.rest;
  room : l.held + l.left ≤ l.budget;
}
