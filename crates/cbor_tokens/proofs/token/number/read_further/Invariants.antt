-- The value so far is that of some number, with which the digits that are left go on.
use Rattle.std.proofs.Common.{◌≡◌, ◌≤◌, ◌-◌, ℕ, length, drop}
use Rattle.cbor_tokens.specs.Token.{capped}
use Rattle.cbor_tokens.specs.TokenReading.{digit_run}
use Rattle.cbor_tokens.proofs.token.number.read_further.Given as goal

abbrev pub invariant-loop-len : goal.invariant-loop-len
invariant-loop-len l = record {
  within : l.len ≤ length l.text;
  read : (number : ℕ) × (l.number ≡ capped number)
      × (digit_run l.radix number (drop l.len l.text) ≡ digit_run l.radix l.value (drop l.start l.text));
}

abbrev pub decreases-loop-len : goal.decreases-loop-len
decreases-loop-len l = length l.text - l.len
