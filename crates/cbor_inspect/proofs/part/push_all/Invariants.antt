-- What was written is that of parts.
use Rattle.std.proofs.Common.{◌≡◌, List, ◌++◌, vec_items, ℕ}
use Rattle.cbor_inspect.proofs.OutputLemmas.{ShowsParts}
use Rattle.cbor_inspect.proofs.part.push_all.Given as goal

abbrev pub invariant-each : goal.invariant-each
invariant-each l =
    (written : List ℕ) × (vec_items l.out ≡ vec_items l.initial.out ++ written) × ShowsParts l.show written
