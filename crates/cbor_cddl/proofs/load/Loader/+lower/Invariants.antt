-- Each part is deeper than the one that it is in.
use Rattle.std.proofs.Common.{◌+◌, ◌*◌}
use Rattle.cbor_cddl.proofs.load.Loader.+lower.Given as goal

abbrev pub decreases-lower : goal.decreases-lower
decreases-lower l = l.depth * 8

abbrev pub decreases-enumerate : goal.decreases-enumerate
decreases-enumerate l = l.depth * 8

abbrev pub decreases-lower_group : goal.decreases-lower_group
decreases-lower_group l = l.depth * 8

abbrev pub decreases-lower_all : goal.decreases-lower_all
decreases-lower_all l = l.depth * 8 + 1

abbrev pub decreases-lower_list : goal.decreases-lower_list
decreases-lower_list l = l.depth * 8 + 2

abbrev pub decreases-named : goal.decreases-named
decreases-named l = l.depth * 8 + 2

abbrev pub decreases-lower_mode : goal.decreases-lower_mode
decreases-lower_mode l = l.depth * 8 + 3

abbrev pub decreases-lower_entry : goal.decreases-lower_entry
decreases-lower_entry l = l.depth * 8 + 1

abbrev pub decreases-lower_head : goal.decreases-lower_head
decreases-lower_head l = l.depth * 8 + 1

abbrev pub decreases-lower_operator : goal.decreases-lower_operator
decreases-lower_operator l = l.depth * 8 + 1
