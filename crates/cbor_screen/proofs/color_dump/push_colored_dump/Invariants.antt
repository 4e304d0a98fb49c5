-- what was appended is the text so far in colours
use Rattle.std.proofs.Common.{◌≡◌, ℕ, ◌-◌, ◌≤◌, List, ◌++◌, length, take, vec_items}
use Rattle.cbor_screen.specs.Colored.{IsColored}
use Rattle.cbor_screen.proofs.color_dump.push_colored_dump.Given as goal

abbrev pub invariant-lines : goal.invariant-lines
invariant-lines l = record {
  within : l.at ≤ length l.text;
  colored : (added : List ℕ) × (vec_items l.out ≡ vec_items l.initial.out ++ added)
      × IsColored (take l.at l.text) added;
}

abbrev pub decreases-lines : goal.decreases-lines
decreases-lines l = length l.text - l.at
