-- The digits that are left go on with the value so far.
use Rattle.std.proofs.Common.{◌≡◌, ◌≤◌, ◌-◌, length, drop}
use Rattle.cbor_tokens.specs.TokenReading.{digit_run}
use Rattle.cbor_tokens.proofs.token.number.read_digits_of.Given as goal

abbrev pub invariant-loop-len : goal.invariant-loop-len
invariant-loop-len l = record {
  within : l.len ≤ length l.text;
  read : digit_run l.radix l.value (drop l.len l.text) ≡ digit_run l.radix 0 l.text;
}

abbrev pub decreases-loop-len : goal.decreases-loop-len
decreases-loop-len l = length l.text - l.len
