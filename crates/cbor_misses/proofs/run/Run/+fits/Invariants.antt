-- Each call for a part has less depth left than the one that it is made by.
use Rattle.std.proofs.Common.{◌+◌, ◌*◌}
use Rattle.cbor_misses.proofs.run.Run.+fits.Given as goal

abbrev pub decreases-fits : goal.decreases-fits
decreases-fits l = l.depth * 8

abbrev pub decreases-fits_muted : goal.decreases-fits_muted
decreases-fits_muted l = l.depth * 8 + 1

abbrev pub decreases-fits_node : goal.decreases-fits_node
decreases-fits_node l = l.inner * 8 + 4

abbrev pub decreases-fits_rule : goal.decreases-fits_rule
decreases-fits_rule l = l.depth * 8 + 3

abbrev pub decreases-fits_prelude : goal.decreases-fits_prelude
decreases-fits_prelude l = l.depth * 8 + 2

abbrev pub decreases-fits_choice : goal.decreases-fits_choice
decreases-fits_choice l = l.depth * 8 + 2

abbrev pub decreases-fits_tag : goal.decreases-fits_tag
decreases-fits_tag l = l.depth * 8 + 2

abbrev pub decreases-fits_array : goal.decreases-fits_array
decreases-fits_array l = l.depth * 8 + 1

abbrev pub decreases-fits_map : goal.decreases-fits_map
decreases-fits_map l = l.depth * 8 + 1

abbrev pub decreases-fits_control : goal.decreases-fits_control
decreases-fits_control l = l.depth * 8 + 3

abbrev pub decreases-fits_encoded : goal.decreases-fits_encoded
decreases-fits_encoded l = l.depth * 8 + 2

abbrev pub decreases-array_takes : goal.decreases-array_takes
decreases-array_takes l = l.depth * 8

abbrev pub decreases-array_member : goal.decreases-array_member
decreases-array_member l = l.depth * 8 + 2

abbrev pub decreases-array_rule : goal.decreases-array_rule
decreases-array_rule l = l.depth * 8 + 1

abbrev pub decreases-array_sequence : goal.decreases-array_sequence
decreases-array_sequence l = l.depth * 8 + 1

abbrev pub decreases-array_choice : goal.decreases-array_choice
decreases-array_choice l = l.depth * 8 + 1

abbrev pub decreases-array_repeated : goal.decreases-array_repeated
decreases-array_repeated l = l.depth * 8 + 3

abbrev pub decreases-array_entry : goal.decreases-array_entry
decreases-array_entry l = l.depth * 8 + 4

abbrev pub decreases-map_takes : goal.decreases-map_takes
decreases-map_takes l = l.depth * 8

abbrev pub decreases-map_rule : goal.decreases-map_rule
decreases-map_rule l = l.depth * 8 + 1

abbrev pub decreases-map_sequence : goal.decreases-map_sequence
decreases-map_sequence l = l.depth * 8 + 1

abbrev pub decreases-map_choice : goal.decreases-map_choice
decreases-map_choice l = l.depth * 8 + 1

abbrev pub decreases-map_repeated : goal.decreases-map_repeated
decreases-map_repeated l = l.depth * 8 + 1

abbrev pub decreases-map_entry : goal.decreases-map_entry
decreases-map_entry l = l.depth * 8 + 2

abbrev pub decreases-fits_value : goal.decreases-fits_value
decreases-fits_value l = l.depth * 8 + 1
