use Rattle.std.proofs.Common.{ℕ, ◌-◌, ◌<◌, ◌≤◌, length}
use Rattle.cbor_inputs.specs.Texts.{IsPlainAt}
use Rattle.cbor_inputs.proofs.text.first_control.Given as goal

-- no control character begins before
abbrev pub invariant-text : goal.invariant-text
invariant-text l = record { within : l.at ≤ length l.text; before : (k : ℕ) → k < l.at → IsPlainAt l.text k }

abbrev pub decreases-text : goal.decreases-text
decreases-text l = length l.text - l.at
