-- None of the bytes so far is a space.
use Rattle.std.proofs.Common.{◌≢◌, ℕ, ◌<◌, ◌≤◌, ◌-◌, length, get_or}
use Rattle.cbor_bytes.proofs.hex_text.first_space.Given as goal

abbrev pub invariant-digits : goal.invariant-digits
invariant-digits l = record {
  within : l.end ≤ length l.line;
  no_space : (k : ℕ) → k < l.end → get_or l.line k 0 ≢ 32;
}

abbrev pub decreases-digits : goal.decreases-digits
decreases-digits l = length l.line - l.end
