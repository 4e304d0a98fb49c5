-- what was appended is the text before the rest, without widths
use Rattle.std.proofs.Common.{◌≡◌, ℕ, List, ◌++◌, length, vec_items}
use Rattle.cbor_marks.specs.Remaining.{rest_of}
use Rattle.cbor_screen.specs.Widthless.{IsWidthless}
use Rattle.cbor_screen.proofs.widths.push_without_widths.Given as goal

abbrev pub invariant-pieces : goal.invariant-pieces
invariant-pieces l = (done : List ℕ) × (added : List ℕ) × (rest_of l.initial.rest ≡ done ++ rest_of l.rest)
    × (vec_items l.out.text ≡ vec_items l.initial.out.text ++ added) × IsWidthless done added

abbrev pub decreases-pieces : goal.decreases-pieces
decreases-pieces l = length (rest_of l.rest)
