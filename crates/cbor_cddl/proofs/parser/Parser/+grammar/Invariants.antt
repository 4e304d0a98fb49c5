-- Each bracket is deeper than the one before. At one depth a call is for less than the one that it is made by.
use Rattle.std.proofs.Common.{◌+◌, ◌*◌}
use Rattle.cbor_cddl.proofs.parser.Parser.+grammar.Given as goal

abbrev pub decreases-type2 : goal.decreases-type2
decreases-type2 l = l.depth * 12

abbrev pub decreases-type1 : goal.decreases-type1
decreases-type1 l = l.depth * 12 + 1

abbrev pub decreases-choice_after : goal.decreases-choice_after
decreases-choice_after l = l.depth * 12 + 2

abbrev pub decreases-choice : goal.decreases-choice
decreases-choice l = l.depth * 12 + 3

abbrev pub decreases-entry : goal.decreases-entry
decreases-entry l = l.depth * 12 + 4

abbrev pub decreases-sequence : goal.decreases-sequence
decreases-sequence l = l.depth * 12 + 5

abbrev pub decreases-group : goal.decreases-group
decreases-group l = l.depth * 12 + 6

abbrev pub decreases-bracketed : goal.decreases-bracketed
decreases-bracketed l = l.inner * 12 + 7

abbrev pub decreases-named : goal.decreases-named
decreases-named l = l.inner * 12 + 7

abbrev pub decreases-derived : goal.decreases-derived
decreases-derived l = l.inner * 12 + 8

abbrev pub decreases-head_number : goal.decreases-head_number
decreases-head_number l = l.inner * 12 + 7

abbrev pub decreases-head : goal.decreases-head
decreases-head l = l.inner * 12 + 8
