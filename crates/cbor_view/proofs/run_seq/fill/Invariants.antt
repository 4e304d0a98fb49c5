-- The block is the output of the items so far. It is not full before there is one.
use Rattle.std.proofs.Common.{◌≡◌, ◌-◌, ◌≤◌, ◌⊎◌, length, drop, vec_len, vec_items}
use Rattle.cbor_view.specs.Sequence.{IsOutputOfFirst}
use Rattle.cbor_view.proofs.run_seq.fill.Given as goal

abbrev pub invariant-items : goal.invariant-items
invariant-items l = record {
  within : l.used ≤ length l.bytes;
  output : IsOutputOfFirst l.to l.bytes (vec_items l.block) (drop l.used l.bytes);
  started : (1 ≤ l.used) ⊎ (vec_len l.block ≡ 0);
}

abbrev pub decreases-items : goal.decreases-items
decreases-items l = length l.bytes - l.used
