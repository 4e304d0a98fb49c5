use Rattle.std.proofs.Common.{◌-◌, ◌≤◌, length}
use Rattle.cbor_inputs.proofs.loose.place_of_digit.Given as goal

abbrev pub invariant-text : goal.invariant-text
invariant-text l = l.at ≤ length l.text

abbrev pub decreases-text : goal.decreases-text
decreases-text l = length l.text - l.at
