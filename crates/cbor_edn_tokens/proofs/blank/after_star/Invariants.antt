use Rattle.std.proofs.Common.{◌≡◌, ◌≤◌, false, length}
use Rattle.cbor_edn_grammar.specs.Blank.{after_star}
use Rattle.cbor_edn_tokens.proofs.blank.after_star.Given as goal

abbrev pub invariant-comment : goal.invariant-comment
invariant-comment l = (after_star l.star l.rest ≡ after_star false l.text) × (length l.rest ≤ length l.text)

abbrev pub decreases-comment : goal.decreases-comment
decreases-comment l = length l.rest
