-- The pairs so far, and those that are left, are the values of the map.
use Rattle.std.proofs.Common.{◌≡◌, ◌++◌}
use Rattle.std.specs.BTreeMap.{values}
use Rattle.cbor_fits.proofs.read.datum.pairs_in.Given as goal

abbrev pub invariant-pairs : goal.invariant-pairs
invariant-pairs l = l.pairs.items ++ l.pair-iterator ≡ values l.fn.entries
