-- The content so far stands before what is left to read.
use Rattle.std.proofs.Common.{◌≡◌, ◌≤◌, false, length}
use Rattle.cbor_tokens.specs.TokenReading.{unquoted, with_front}
use Rattle.cbor_tokens.proofs.token.content.quoted_front.Given as goal

abbrev pub invariant-pieces : goal.invariant-pieces
invariant-pieces l = record {
  within : length l.rest ≤ length l.text;
  read : unquoted l.quote false l.text ≡ with_front l.content.items (unquoted l.quote false l.rest);
}

abbrev pub decreases-pieces : goal.decreases-pieces
decreases-pieces l = length l.rest
