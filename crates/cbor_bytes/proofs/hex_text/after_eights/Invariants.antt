-- What is passed are spaces.
use Rattle.std.proofs.Common.{◌≡◌, ◌≤◌, length}
use Rattle.cbor_tokens.specs.Uncommented.{unspaced}
use Rattle.cbor_bytes.proofs.hex_text.after_eights.Given as goal

abbrev pub invariant-eights : goal.invariant-eights
invariant-eights l = record {
  same : unspaced l.rest ≡ unspaced l.line;
  longer : length l.rest ≤ length l.line;
}

abbrev pub decreases-eights : goal.decreases-eights
decreases-eights l = length l.rest
