use Rattle.std.proofs.Common.{◌≡◌, ◌-◌, ◌++◌, length, drop, vec_items}
use Rattle.cbor_inputs.specs.declared.loose.Mode.TheVariants.{Apart}
use Rattle.cbor_inputs.specs.Loose.{loose}
use Rattle.cbor_inputs.proofs.loose.kept.Given as goal

-- what was kept, and what is kept of the rest, are the whole
abbrev pub invariant-text : goal.invariant-text
invariant-text l = vec_items l.digits ++ loose l.mode (drop l.at l.text) ≡ loose Apart l.text

abbrev pub decreases-text : goal.decreases-text
decreases-text l = length l.text - l.at
