-- The count is that of the bytes kept so far.
use Rattle.std.proofs.Common.{◌≡◌, ◌+◌, ◌≤◌, length}
use Rattle.cbor_grammar.proofs.hex.Kept.{Walked}
use Rattle.cbor_bytes.proofs.hex_text.place.kept_count.Given as goal

abbrev pub invariant-kept : goal.invariant-kept
invariant-kept l = record {
  walked : Walked (λ bytes. length bytes ≡ l.count) l.text l.rest;
  fits : l.count + length l.rest ≤ length l.text;
}

abbrev pub decreases-kept : goal.decreases-kept
decreases-kept l = length l.rest
