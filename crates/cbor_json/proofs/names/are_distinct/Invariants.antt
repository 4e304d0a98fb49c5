-- No two of the names so far are equal.
use Rattle.std.proofs.Common.{ℕ, List}
use Rattle.cbor_json.specs.mirror.Walking.{AreAt}
use Rattle.cbor_json.proofs.walking.Ordered.{Known}
use Rattle.cbor_json.proofs.names.are_distinct.Given as goal

abbrev pub invariant-names : goal.invariant-names
invariant-names l = (ns : List (List ℕ)) → AreAt l.text l.names ns → Known ns l.index l.greatest
