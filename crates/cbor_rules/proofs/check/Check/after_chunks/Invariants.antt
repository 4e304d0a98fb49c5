-- Reading the chunks that are left gives what reading all of them does.
use Rattle.std.proofs.Common.{◌≡◌, ◌<◌, ◌≤◌, ℕ, suc, length}
use Rattle.cbor_rules.specs.FirstViolation.{kept_chunks}
use Rattle.cbor_rules.proofs.check.Check.after_chunks.Given as goal

abbrev pub decreases-chunks : goal.decreases-chunks
decreases-chunks l = length l.rest

abbrev pub invariant-chunks : goal.invariant-chunks
invariant-chunks l =
    (length l.rest ≤ length l.bytes)
    × ((n : ℕ) × (length l.rest < n)
    × (kept_chunks n l.self.rules l.self.len l.kind l.rest
    ≡ kept_chunks (suc (length l.bytes)) l.self.rules l.self.len l.kind l.bytes))
