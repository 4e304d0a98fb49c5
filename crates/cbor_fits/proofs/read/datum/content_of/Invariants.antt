-- The content so far, and that of the chunks that are left, is that of all.
use Rattle.std.proofs.Common.{◌≡◌, ◌++◌, map, drop}
use Rattle.cbor_fits.specs.Decoded.{content_of}
use Rattle.cbor_fits.proofs.read.datum.content_of.Given as goal

abbrev pub invariant-chunks : goal.invariant-chunks
invariant-chunks g l =
    let chunk = g.S.DefiniteString.chunk in
    l.content.items ++ content_of (map chunk (drop l.chunk-index l.chunks)) ≡ content_of (map chunk l.chunks)
