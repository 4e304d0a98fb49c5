use Rattle.std.proofs.Common.{◌≡◌, ℕ, ◌≤◌, length}
use Rattle.cbor_edn_grammar.specs.Blank.{after_spaces, after_blank}
use Rattle.cbor_edn_tokens.proofs.blank.after_blank.Given as goal

abbrev pub invariant-spaces : goal.invariant-spaces
invariant-spaces l = record {
  bound : ℕ;
  enough : length l.rest ≤ bound;
  so_far : after_spaces l.slashes bound l.rest ≡ after_blank l.slashes l.text;
  room : length l.rest ≤ length l.text;
}

abbrev pub decreases-spaces : goal.decreases-spaces
decreases-spaces l = length l.rest
