-- The value so far is small, and the digits that are left go on with it.
use Rattle.std.proofs.Common.{◌≡◌, ◌≤◌, ◌-◌, length, drop}
use Rattle.cbor_tokens.specs.TokenReading.{small_run}
use Rattle.cbor_tokens.proofs.token.number.read_small.Given as goal

abbrev pub invariant-loop-len : goal.invariant-loop-len
invariant-loop-len l = record {
  within : l.len ≤ length l.text;
  small : l.value ≤ 3;
  read : small_run l.value (drop l.len l.text) ≡ small_run 0 l.text;
}

abbrev pub decreases-loop-len : goal.decreases-loop-len
decreases-loop-len l = length l.text - l.len
