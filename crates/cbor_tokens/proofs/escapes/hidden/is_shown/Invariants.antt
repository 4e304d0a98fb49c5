use Rattle.std.proofs.Common.{ℕ, ◌-◌, ◌<◌, length}
use Rattle.cbor_tokens.specs.Hidden.{ShownAt}
use Rattle.cbor_tokens.proofs.escapes.hidden.is_shown.Given as goal

-- the characters before are shown as they are
abbrev pub invariant-parts : goal.invariant-parts
invariant-parts l = (k : ℕ) → k < l.at → ShownAt l.lines l.text k

abbrev pub decreases-parts : goal.decreases-parts
decreases-parts l = length l.text - l.at
