-- what was appended is the text before the rest, with its long strings cut
use Rattle.std.proofs.Common.{◌≡◌, ℕ, List, ◌++◌, length, vec_items}
use Rattle.cbor_marks.specs.Remaining.{rest_of}
use Rattle.cbor_screen.specs.Elided.{IsElided}
use Rattle.cbor_screen.proofs.elide.push_elided.Given as goal

abbrev pub invariant-pieces : goal.invariant-pieces
invariant-pieces l = (done : List ℕ) × (added : List ℕ) × (rest_of l.initial.rest ≡ done ++ rest_of l.rest)
    × (vec_items l.out.text ≡ vec_items l.initial.out.text ++ added) × IsElided l.most done added

abbrev pub decreases-pieces : goal.decreases-pieces
decreases-pieces l = length (rest_of l.rest)
