-- What is passed are spaces, within the bytes that are near.
use Rattle.std.proofs.Common.{◌≡◌, ◌≤◌, ◌-◌, length, drop}
use Rattle.cbor_tokens.specs.Uncommented.{unspaced}
use Rattle.cbor_bytes.proofs.hex_text.after_spaces.Given as goal

abbrev pub invariant-spaces : goal.invariant-spaces
invariant-spaces l = record {
  within : l.at ≤ length l.near;
  same : unspaced (drop l.at l.near) ≡ unspaced l.line;
}

abbrev pub decreases-spaces : goal.decreases-spaces
decreases-spaces l = length l.near - l.at
