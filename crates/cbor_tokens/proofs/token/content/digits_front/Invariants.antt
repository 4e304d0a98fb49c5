-- The digits so far stand before what is left to read, which begins with no blank.
use Rattle.std.proofs.Common.{◌≡◌, ◌≤◌, false, length}
use Rattle.cbor_tokens.specs.TokenReading.{after_blank, digits_in, with_front}
use Rattle.cbor_tokens.proofs.token.content.digits_front.Given as goal

abbrev pub invariant-runs : goal.invariant-runs
invariant-runs l = record {
  within : length l.rest ≤ length l.text;
  blank : after_blank l.comments l.rest ≡ l.rest;
  read : digits_in l.comments false l.text ≡ with_front l.digits.items (digits_in l.comments false l.rest);
}

abbrev pub decreases-runs : goal.decreases-runs
decreases-runs l = length l.rest
