use Rattle.std.proofs.Common.{◌≡◌, ℕ, ◌+◌, ◌≤◌, length}
use Rattle.cbor_edn_grammar.specs.HexFloat.{hex_run}
use Rattle.cbor_edn_tokens.specs.mirror.Front.{IsFront, FitsFront}
use Rattle.cbor_edn_tokens.proofs.hex_float.hex_run.Given as goal

abbrev pub invariant-digits : goal.invariant-digits
invariant-digits l = record {
  so_far : (n : ℕ) → IsFront l.fn.start n → (m : ℕ) × IsFront l.front m × (hex_run m l.rest ≡ hex_run n l.digits);
  fits : FitsFront l.front;
  behind : l.front.behind + length l.rest ≤ l.fn.start.behind + length l.digits;
}

abbrev pub decreases-digits : goal.decreases-digits
decreases-digits l = length l.rest
