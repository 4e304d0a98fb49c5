-- what was appended is the text before the rest, in colours
use Rattle.std.proofs.Common.{◌≡◌, ℕ, List, ◌++◌, length, vec_items}
use Rattle.cbor_marks.specs.Remaining.{rest_of}
use Rattle.cbor_screen.specs.Colored.{IsColored}
use Rattle.cbor_screen.proofs.color.push_colored.Given as goal

abbrev pub invariant-pieces : goal.invariant-pieces
invariant-pieces l = (done : List ℕ) × (added : List ℕ) × (rest_of l.initial.rest ≡ done ++ rest_of l.rest)
    × (vec_items l.out ≡ vec_items l.initial.out ++ added) × IsColored done added

abbrev pub decreases-pieces : goal.decreases-pieces
decreases-pieces l = length (rest_of l.rest)
