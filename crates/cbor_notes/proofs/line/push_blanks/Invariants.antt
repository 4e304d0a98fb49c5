use Rattle.std.proofs.Common.{◌≡◌, ◌≤◌, ◌+◌, ◌++◌, replicate}
use Rattle.std.specs.String.{string_bytes, string_len, string_capacity}
use Rattle.cbor_notes.proofs.line.push_blanks.Given as goal

-- what is written and what is left to write are the whole
abbrev pub invariant-more : goal.invariant-more
invariant-more l =
    (string_bytes l.out ++ replicate l.left 32 ≡ string_bytes l.fn.out ++ replicate l.count 32)
    × (string_len l.out + l.left ≡ string_len l.fn.out + l.count)
    × (string_capacity l.fn.out ≤ string_capacity l.out)

abbrev pub decreases-more : goal.decreases-more
decreases-more l = l.left
