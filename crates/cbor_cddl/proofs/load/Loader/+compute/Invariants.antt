-- Each value is deeper than the one that it is a part of.
use Rattle.std.proofs.Common.{◌+◌, ◌*◌}
use Rattle.cbor_cddl.proofs.load.Loader.+compute.Given as goal

abbrev pub decreases-value : goal.decreases-value
decreases-value l = l.depth * 8

abbrev pub decreases-two_values : goal.decreases-two_values
decreases-two_values l = l.depth * 8 + 1

abbrev pub decreases-string_node : goal.decreases-string_node
decreases-string_node l = l.depth * 8 + 2

abbrev pub decreases-range_node : goal.decreases-range_node
decreases-range_node l = l.depth * 8 + 2

abbrev pub decreases-sum_node : goal.decreases-sum_node
decreases-sum_node l = l.depth * 8 + 2

abbrev pub decreases-pattern : goal.decreases-pattern
decreases-pattern l = l.depth * 8 + 1

abbrev pub decreases-computed : goal.decreases-computed
decreases-computed l = l.depth * 8 + 3

abbrev pub decreases-compute : goal.decreases-compute
decreases-compute l = l.depth * 8 + 4
