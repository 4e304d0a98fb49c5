use Rattle.std.proofs.Common.{◌≡◌, ℕ, ◌<◌, ◌≤◌, length}
use Rattle.cbor_edn_grammar.specs.Reading.{turns}
use Rattle.cbor_edn_grammar.specs.Quoted.{content_turn, quoted}
use Rattle.cbor_edn_grammar.proofs.Turns.{onto}
use Rattle.cbor_edn_tokens.proofs.quoted.read_quoted.Given as goal

abbrev pub invariant-content : goal.invariant-content
invariant-content l = record {
  bound : ℕ;
  enough : length l.text < bound;
  so_far : onto l.content.items (turns (content_turn l.quote) bound l.text) ≡ quoted l.quote l.fn.text;
  room : length l.text ≤ length l.fn.text;
}

abbrev pub decreases-content : goal.decreases-content
decreases-content l = length l.text
