use Rattle.std.proofs.Common.{◌-◌, ◌≤◌}
use Rattle.cbor_tokens.specs.Hidden.{ShownBetween}
use Rattle.cbor_tokens.proofs.escapes.hidden.is_shown_between.Given as goal

-- the characters before are shown as they are
abbrev pub invariant-bytes : goal.invariant-bytes
invariant-bytes l = record {
  above : l.from ≤ l.at;
  before : ShownBetween l.lines l.text l.from l.at;
}

abbrev pub decreases-bytes : goal.decreases-bytes
decreases-bytes l = l.to - l.at
