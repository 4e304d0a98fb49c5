-- The pairs that are left come after what is written.
use Rattle.std.proofs.Common.{◌≡◌, ◌++◌, drop}
use Rattle.cbor_reencode.specs.mirror.Rewritten.{pair_bytes}
use Rattle.cbor_reencode.proofs.pairs.push_pairs.Given as goal

abbrev pub invariant-loop-pair : goal.invariant-loop-pair
invariant-loop-pair l =
    l.out.items ++ pair_bytes (drop l.pair-index l.pairs) ≡ l.fn.out.items ++ pair_bytes l.pairs
