-- The rest of the bytes is to be clear after as many bits as are left.
use Rattle.std.proofs.Common.{◌≡◌, length}
use Rattle.cbor_edn_grammar.specs.Address.{is_clear_after}
use Rattle.cbor_edn_tokens.proofs.address.is_clear_after.Given as goal

abbrev pub invariant-bytes : goal.invariant-bytes
invariant-bytes l = is_clear_after l.left l.rest ≡ is_clear_after l.bits l.bytes

abbrev pub decreases-bytes : goal.decreases-bytes
decreases-bytes l = length l.rest
