-- None of the names so far is this one.
use Rattle.std.proofs.Common.{◌≢◌, ℕ, ◌<◌, List, [], get_or}
use Rattle.cbor_json.specs.mirror.Walking.{AreAt}
use Rattle.cbor_json.proofs.names.is_new.Given as goal

abbrev pub invariant-names : goal.invariant-names
invariant-names l =
    (ns : List (List ℕ)) → AreAt l.text l.names ns → (j : ℕ) → j < l.index → get_or ns j [] ≢ l.this
