use Rattle.std.proofs.Common.{◌≡◌, ℕ, ◌<◌, length}
use Rattle.cbor_edn_grammar.specs.Reading.{turns, repeated}
use Rattle.cbor_edn_grammar.specs.Digits.{digit_turn}
use Rattle.cbor_edn_grammar.proofs.Turns.{onto}
use Rattle.cbor_edn_tokens.proofs.digits.digits_of.Given as goal

abbrev pub invariant-digits : goal.invariant-digits
invariant-digits l = record {
  bound : ℕ;
  enough : length l.text < bound;
  so_far : onto l.digits.items (turns (digit_turn l.slashes) bound l.text) ≡ repeated (digit_turn l.slashes) l.content;
}

abbrev pub decreases-digits : goal.decreases-digits
decreases-digits l = length l.text
