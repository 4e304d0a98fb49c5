-- what was appended is the line so far in colours
use Rattle.std.proofs.Common.{◌≡◌, ℕ, ◌-◌, ◌≤◌, List, ◌++◌, length, take, vec_items}
use Rattle.cbor_screen.specs.Colored.{IsColored}
use Rattle.cbor_screen.proofs.color_dump.push_line.Given as goal

abbrev pub invariant-tokens : goal.invariant-tokens
invariant-tokens l = record {
  within : l.at ≤ length l.line;
  colored : (added : List ℕ) × (vec_items l.out ≡ vec_items l.initial.out ++ added)
      × IsColored (take l.at l.line) added;
}

abbrev pub decreases-tokens : goal.decreases-tokens
decreases-tokens l = length l.line - l.at
