-- The neighbours so far differ.
use Rattle.std.proofs.Common.{ℕ, ◌+◌, ◌<◌}
use Rattle.json.proofs.Unique.Keys.{DifferAt}
use Rattle.cbor_json.proofs.names.neighbours_differ.Given as goal

abbrev pub invariant-later : goal.invariant-later
invariant-later l = (k : ℕ) → k + 1 < l.later → DifferAt l.texts k (k + 1)
