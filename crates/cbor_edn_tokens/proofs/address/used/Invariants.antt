-- The last byte that is not 0 is one of the rest, or else the last one so far.
use Rattle.std.proofs.Common.{◌≡◌, ◌+◌, ◌≤◌, length}
use Rattle.cbor_edn_grammar.specs.Address.{used}
use Rattle.cbor_edn_tokens.proofs.Addresses.{used_so_far}
use Rattle.cbor_edn_tokens.proofs.address.used.Given as goal

abbrev pub invariant-bytes : goal.invariant-bytes
invariant-bytes l = record {
  total : used_so_far l.used l.passed (used l.rest) ≡ used l.bytes;
  found : l.used ≤ l.passed;
  room : l.passed + length l.rest ≡ length l.bytes;
}

abbrev pub decreases-bytes : goal.decreases-bytes
decreases-bytes l = length l.rest
