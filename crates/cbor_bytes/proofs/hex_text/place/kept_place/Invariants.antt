-- The bytes kept so far are counted, and are no more than are asked for.
use Rattle.std.proofs.Common.{◌≡◌, ◌+◌, ◌≤◌, length}
use Rattle.cbor_grammar.proofs.hex.Kept.{Walked}
use Rattle.cbor_bytes.proofs.hex_text.place.kept_place.Given as goal

abbrev pub invariant-kept : goal.invariant-kept
invariant-kept l = record {
  walked : Walked (λ bytes. length bytes ≡ l.before) l.text l.rest;
  fits : l.before + length l.rest ≤ length l.text;
  within : l.before ≤ l.n;
}

abbrev pub decreases-kept : goal.decreases-kept
decreases-kept l = length l.rest
