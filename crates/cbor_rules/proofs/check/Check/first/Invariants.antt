-- Reading the items that are left gives what reading all of them does.
use Rattle.std.proofs.Common.{◌≡◌, ◌≤◌, ℕ, length}
use Rattle.cbor_rules.specs.FirstViolation.{violation_from, first_violation}
use Rattle.cbor_rules.proofs.check.Check.first.Given as goal

abbrev pub decreases-items : goal.decreases-items
decreases-items l = length l.rest

abbrev pub invariant-items : goal.invariant-items
invariant-items l =
    (n : ℕ) × (length l.rest ≤ n)
    × (violation_from n l.self.rules l.self.len l.rest ≡ first_violation l.self.rules l.bytes)
