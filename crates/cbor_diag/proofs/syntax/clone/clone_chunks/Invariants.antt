-- The copies so far are the chunks so far.
use Rattle.std.proofs.Common.{◌≡◌, map, take}
use Rattle.cbor_diag.proofs.syntax.clone.clone_chunks.Given as goal

abbrev pub invariant-chunks : goal.invariant-chunks
invariant-chunks g l =
    let chunk = g.S.DefiniteString.chunk in
    map chunk l.copies.items ≡ map chunk (take l.chunk-index l.chunks)
