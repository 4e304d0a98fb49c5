-- no line feed has come
use Rattle.std.proofs.Common.{◌≡◌, ℕ, ◌-◌, ◌<◌, ◌≤◌, length, get_or}
use Rattle.cbor_screen.proofs.color_dump.line_end.Given as goal

abbrev pub invariant-line : goal.invariant-line
invariant-line l = record {
  within : l.at ≤ length l.text;
  line : (k : ℕ) → k < l.at → get_or l.text k 0 ≡ 10 → ⊥;
}

abbrev pub decreases-line : goal.decreases-line
decreases-line l = length l.text - l.at
