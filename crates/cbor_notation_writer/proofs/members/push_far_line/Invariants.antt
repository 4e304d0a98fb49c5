-- The line has the first blanks, and one more for each round.
use Rattle.std.proofs.Common.{◌≡◌, ◌∷◌, ◌++◌, replicate}
use Rattle.std.specs.String.{string_bytes}
use Rattle.cbor_notation_writer.proofs.members.push_far_line.Given as goal

abbrev pub invariant-blanks : goal.invariant-blanks
invariant-blanks l = string_bytes l.out ≡ string_bytes l.fn.out ++ 10 ∷ replicate l.counter 32
