use Rattle.std.proofs.Common.{◌≡◌, ◌≤◌, length}
use Rattle.cbor_edn_grammar.specs.Blank.{after_line}
use Rattle.cbor_edn_tokens.proofs.blank.after_line.Given as goal

abbrev pub invariant-line : goal.invariant-line
invariant-line l = (after_line l.rest ≡ after_line l.text) × (length l.rest ≤ length l.text)

abbrev pub decreases-line : goal.decreases-line
decreases-line l = length l.rest
