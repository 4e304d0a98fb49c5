use Rattle.std.proofs.Common.{◌≡◌, ◌<◌, ◌≤◌, length}
use Rattle.cbor_edn_grammar.specs.Quoted.{braced_from, braced}
use Rattle.cbor_edn_tokens.proofs.quoted.braced.Given as goal

abbrev pub invariant-digits : goal.invariant-digits
invariant-digits l = (braced_from l.value l.rest ≡ braced l.text) × (length l.rest ≤ length l.text)
    × (l.value < 0x110000)

abbrev pub decreases-digits : goal.decreases-digits
decreases-digits l = length l.rest
