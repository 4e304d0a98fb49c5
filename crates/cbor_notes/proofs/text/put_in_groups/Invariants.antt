use Rattle.std.proofs.Common.{◌≡◌, ◌≤◌, ◌+◌, ◌*◌, ◌++◌, length, drop}
use Rattle.cbor_notes.specs.Text as spec
use Rattle.cbor_notes.proofs.text.put_in_groups.Given as goal

-- what is written and the groups of the digits to come are the whole, of at most two characters for each digit
abbrev pub invariant-loop-place : goal.invariant-loop-place
invariant-loop-place l = record {
  whole : l.out ++ spec.in_groups (drop l.place l.digits) ≡ l.initial.out ++ spec.in_groups l.digits;
  short : length l.out ≤ length l.initial.out + 2 * l.place;
}
