-- The pairs so far.
use Rattle.std.proofs.Common.{◌≡◌, map, take}
use Rattle.cbor_fits.specs.Rests.{pair_view, pair_view_of}
use Rattle.cbor_fits.proofs.rest.all_pairs.Given as goal

abbrev pub invariant-pairs : goal.invariant-pairs
invariant-pairs l = map pair_view_of l.all.items ≡ map pair_view (take l.pair-index l.pairs)
