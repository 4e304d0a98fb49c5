-- What is left has the same text after its longest blank.
use Rattle.std.proofs.Common.{◌≡◌, ◌≤◌, length}
use Rattle.cbor_tokens.specs.TokenReading.{after_blank}
use Rattle.cbor_tokens.proofs.token.after_blank.Given as goal

abbrev pub invariant-pieces : goal.invariant-pieces
invariant-pieces l = record {
  within : length l.rest ≤ length l.text;
  read : after_blank l.comments l.rest ≡ after_blank l.comments l.text;
}

abbrev pub decreases-pieces : goal.decreases-pieces
decreases-pieces l = length l.rest
