use Rattle.std.proofs.Common.{◌≡◌, ◌≤◌, length}
use Rattle.cbor_edn_grammar.specs.Blank.{after_slash}
use Rattle.cbor_edn_tokens.proofs.blank.after_slash.Given as goal

abbrev pub invariant-comment : goal.invariant-comment
invariant-comment l = (after_slash l.rest ≡ after_slash l.text) × (length l.rest ≤ length l.text)

abbrev pub decreases-comment : goal.decreases-comment
decreases-comment l = length l.rest
