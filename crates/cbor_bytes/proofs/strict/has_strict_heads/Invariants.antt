use Rattle.std.proofs.Common.{length}
use Rattle.cbor_grammar.specs.mirror.StrictHeads.{StrictHeads}
use Rattle.cbor_bytes.proofs.strict.has_strict_heads.Given as goal

-- what holds of the bytes that are left holds of all
abbrev pub invariant-heads : goal.invariant-heads
invariant-heads l = StrictHeads l.rest → StrictHeads l.fn.bytes

abbrev pub decreases-heads : goal.decreases-heads
decreases-heads l = length l.rest
