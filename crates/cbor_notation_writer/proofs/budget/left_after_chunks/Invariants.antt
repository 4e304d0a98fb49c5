-- The chunks that are left leave of the rest what all chunks leave of the budget.
use Rattle.std.proofs.Common.{◌≡◌, ◌-◌, map, drop}
use Rattle.cbor_grammar.specs.Estimate.{estimated_chunks}
use Rattle.cbor_notation_writer.proofs.budget.left_after_chunks.Given as goal

-- the chunks that are left leave of the rest what all leave of the budget
abbrev pub invariant-chunks : goal.invariant-chunks
invariant-chunks g l =
    let size = estimated_chunks g.S.DefiniteString.kind in
    let chunk = g.S.DefiniteString.chunk in
    l.left - size (map chunk (drop l.chunk-index l.chunks)) ≡ l.fn.budget - size (map chunk l.chunks)
