-- What is due was left by the bytes before the rest.
use Rattle.std.proofs.Common.{◌≡◌, ◌≤◌, List, ℕ, ◌++◌, length}
use Rattle.cbor_grammar.specs.WellFormed.{deepest}
use Rattle.cbor_bytes.specs.mirror.Skipping.{skip_item}
use Rattle.cbor_bytes.specs.mirror.Scanning.{Waits}
use Rattle.cbor_bytes.specs.mirror.Scanned.{skip_rest}
use Rattle.cbor_bytes.proofs.skip.progress.Progress.after_more.Given as goal

abbrev pub decreases-held : goal.decreases-held
decreases-held l = length l.rest

-- some of the bytes that were fed came so far
abbrev pub invariant-held : goal.invariant-held
invariant-held l = record {
  seen : (fed : List ℕ) → Waits (skip_item deepest) (skip_rest l.fn.self) fed l.fn.self.held
      → (seen : List ℕ) × (seen ++ l.rest ≡ fed ++ l.bytes)
      × Waits (skip_item deepest) (skip_rest l.self) seen l.self.held;
  within : length l.rest ≤ length l.bytes;
}
