-- The count of a container is that of its members.
use Rattle.std.proofs.Common.{ap, ◌∙◌, arith}
use Rattle.cbor_fits.specs.View.{view}
use Rattle.cbor_fits.specs.Leaf.{argument}
use Rattle.cbor_fits.proofs.Views.{view-Array, view-Map, member_count, pair_count}
use Rattle.cbor_fits.proofs.leaf.argument_of.Goals as goal

pub returns-in-Array : goal.returns-in-Array
returns-in-Array c =
    let v = c.in-Array.members in
    let seen = ap argument (ap view c.in-Array.is ∙ view-Array v) in
    omega (arith, seen, member_count v.items, v.ok.0)

pub returns-in-Map : goal.returns-in-Map
returns-in-Map c =
    let v = c.in-Map.pairs in
    let seen = ap argument (ap view c.in-Map.is ∙ view-Map v) in
    omega (arith, seen, pair_count v.items, v.ok.0)
