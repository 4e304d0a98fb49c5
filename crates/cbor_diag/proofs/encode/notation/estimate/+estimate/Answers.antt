-- A map leaves of the budget what its pairs leave.
use Rattle.std.proofs.Common.{ap, ◌∙◌, arith}
use Rattle.cbor_diag.specs.View.{view}
use Rattle.cbor_grammar.specs.Estimate.{estimated_length}
use Rattle.cbor_diag.proofs.shared.Views.{view-Map}
use Rattle.cbor_diag.proofs.encode.notation.estimate.+estimate.Goals as goal

pub left_after_item-returns-in-Map : goal.left_after_item-returns-in-Map
left_after_item-returns-in-Map t c =
    let seen = ap estimated_length (ap view c.in-Map.is ∙ view-Map c.in-Map.content c.in-Map.bitwidth) in
    omega (arith, seen, c.left_after_pairs.ensures, c.saturating_sub-in-Map.ensures)
