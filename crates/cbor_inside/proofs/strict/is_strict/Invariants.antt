use Rattle.std.proofs.Common.{◌≡◌, ℕ, ◌≤◌, length}
use Rattle.cbor_inside.specs.Strict.{are_heads, is_strict}
use Rattle.cbor_inside.proofs.strict.is_strict.Given as goal

-- the rest decides
abbrev pub invariant-heads : goal.invariant-heads
invariant-heads l = record {
  bound : ℕ;
  enough : length l.rest ≤ bound;
  so_far : are_heads bound l.rest ≡ is_strict l.bytes;
}

abbrev pub decreases-heads : goal.decreases-heads
decreases-heads l = length l.rest
