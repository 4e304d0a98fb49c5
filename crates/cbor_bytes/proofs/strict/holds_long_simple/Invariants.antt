use Rattle.cbor_grammar.specs.mirror.StrictHeads.{NoLongSimple}
use Rattle.std.proofs.Common.{length}
use Rattle.cbor_bytes.proofs.strict.holds_long_simple.Given as goal

-- what holds of the bytes that are left holds of all
abbrev pub invariant-places : goal.invariant-places
invariant-places l = NoLongSimple l.rest → NoLongSimple l.fn.bytes

abbrev pub decreases-places : goal.decreases-places
decreases-places l = length l.rest
